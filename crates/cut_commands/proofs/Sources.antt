-- How a command ends by where its plan is read from, by its parts.
use Rattle.std.proofs.Common.{◌≡◌, ◌∙◌, ◌≤◌, ◌<◌, ℕ, Bool, false, List, [], Option, Some, None, Result, Ok, Err, length, nat_lt}
use Rattle.std.proofs.Common.{Bor, refl, sym, ap, arith, inl, inr}
use Rattle.std.specs.Bool.{⊤}
use Rattle.std.specs.Prelude.{IsErrOf}
use Rattle.std.specs.Str.{is_utf8}
use Rattle.std.proofs.lemmas.Bool.Decides.{nat_tests}
use Rattle.cut_plan.specs.Values.{Values}
use Rattle.cut_plan.specs.Accepted.{plan_of}
use Rattle.cut_plan.specs.Refusals.{IsFaultOfText}
use Rattle.cut_plan.specs.declared.refusal.PlanFault.{PlanFault}
use Rattle.cut_plan.specs.declared.refusal.PlanFault.TheVariants as plan
use Rattle.cut_plan.specs.declared.refusal.Refusal.TheVariants.{NotJson, PlanTooLong}
use Rattle.cut_disks.specs.Log.{DiskLog}
use Rattle.cut_files.specs.Place.{Place, Unknown, Absent, Refused, Open, Holds, closed, opened}
use Rattle.cut_wires.specs.Log.{WireLog, wrote}
use Rattle.cut_commands.specs.Faults.{fault_of_plan}
use Rattle.cut_commands.specs.Run.{CommandAnswers, EndsCommandFrom, EndsFrom, EndsOnText, EndsRead, GivesPlanFrom}
use Rattle.cut_commands.specs.Run.{GivesTextFrom, HasUnread, IsPlanText, IsReadAs, LeavesStudy}
use Rattle.cut_commands.specs.Run.{failing, failed_by, plan_place, read_on}
use Rattle.cut_commands.specs.Task.{Task}
use Rattle.cut_commands.specs.declared.fault.CliFault.{CliFault}
use Rattle.cut_commands.specs.declared.fault.CliFault.TheVariants.{Memory, Plan, Read}
use Rattle.cut_commands.proofs.InputLemmas.{gives_no_plan, refused_as}
use Rattle.cut_commands.proofs.RunLemmas.{Weakens, answers_as, answers_none, answers_text, ends_as, ends_left, ends_unread}
use Rattle.cut_wires.proofs.Logs.{wrote_none}

-- two accounts of what stands at each path that agree have the same at the path of a plan
pub same_place : (one other : List ℕ → Place) (source : Option (Bor (List ℕ)))
    → ((path : List ℕ) → one path ≡ other path) → plan_place one source ≡ plan_place other source
same_place one other None same = refl
same_place one other (Some path) same = ap (λ (place : Place). Some place) (same path.now)

-- a file that was opened is shut as if it had not been
pub closed_opened : (disk : DiskLog) (place : Place) → closed disk (opened place) ≡ closed disk place
closed_opened disk Unknown = refl
closed_opened disk Absent = refl
closed_opened disk Refused = refl
closed_opened disk Open = refl
closed_opened disk (Holds log) = refl

-- ---- a text

-- a text that was read is no longer than the limit
pub text_short : (source : Option Place) (text : List ℕ) (old mid : WireLog) → GivesTextFrom source (Ok text) old mid
    → length text ≤ 65537
text_short None text old mid given = given.0
text_short (Some place) text old mid given = given.0.short

-- a text was read, and then the command ended with some bytes written
pub ends_text : (answering : List ℕ → Bool → Result ⊤ CliFault → List ℕ → Type 0) (source : Option Place)
    (text : List ℕ) (result : Result ⊤ CliFault) (written : List ℕ) (old mid new : WireLog)
    → GivesTextFrom source (Ok text) old mid → new ≡ failed_by result (wrote mid written)
    → answering text (nat_lt (length text) 65537) result written → EndsFrom answering source old new result
ends_text answering None text result written old mid new given log answers = record {
  text = text;
  ended = nat_lt (length text) 65537;
  written = written;
  log = log ∙ ap (λ (l : WireLog). failed_by result (wrote l written)) given.1;
  answers = answers;
}
ends_text answering (Some place) text result written old mid new given log answers = inl (record {
  text = text;
  is = given.0;
  written = written;
  log = log ∙ ap (λ (l : WireLog). failed_by result (wrote l written)) given.1;
  answers = answers;
})

-- ---- a plan

-- no text is no plan
pub gives_no_plan_from : (source : Option Place) (fault : CliFault) (old new : WireLog)
    → GivesTextFrom source (Err fault) old new → GivesPlanFrom source (Err fault) old new
gives_no_plan_from None fault old new given = gives_no_plan fault old new given
gives_no_plan_from (Some place) fault old new given = inr given

plan_not_failing : (fault : PlanFault) (l : WireLog) → failing (fault_of_plan fault) l ≡ l
plan_not_failing plan.Memory l = refl
plan_not_failing (plan.Refused refusal) l = refl

-- no plan was made of a text that was read
pub gives_refused_from : {T : Type 0} (source : Option Place) (text : List ℕ) (fault : PlanFault) (old new : WireLog)
    → GivesTextFrom source (Ok text) old new
    → IsFaultOfText (plan_of text) fault → (65536 < length text
    → IsErrOf {T = T} (Err fault) (plan.Refused PlanTooLong))
    → (length text ≤ 65536 → is_utf8 text ≡ false → IsErrOf {T = T} (Err fault) (plan.Refused NotJson))
    → GivesPlanFrom source (Err (fault_of_plan fault)) old new
gives_refused_from None text fault old new given why long utf8 = record {
  text = text;
  ended = nat_lt (length text) 65537;
  log = given.1 ∙ sym (plan_not_failing fault (read_on text (nat_lt (length text) 65537) old));
  is = refused_as text fault given.0 why long utf8;
}
gives_refused_from (Some place) text fault old new given why long utf8 =
    inl (text, (given.0, refused_as text fault given.0.short why long utf8, given.1))

-- a plan was
pub gives_plan_from : (source : Option Place) (text : List ℕ) (v : Values) (old new : WireLog)
    → GivesTextFrom source (Ok text) old new → plan_of text ≡ Ok v → GivesPlanFrom source (Ok v) old new
gives_plan_from None text v old new given is =
    record { text = text; ended = nat_lt (length text) 65537; log = given.1; is = ((given.0, refl), is) }
gives_plan_from (Some place) text v old new given is = inl (text, (given.0, ((given.0.short, refl), is), given.1))

-- ---- a command

-- where a text was read up to its end, or to the limit, no read failed
not_failing : (text : List ℕ) (fault : CliFault) → IsReadAs text (nat_lt (length text) 65537) (Err fault) → (l : WireLog)
    → failing fault l ≡ l
not_failing text Memory is l = refl
not_failing text (Plan refusal) is l = refl
not_failing text Read is l = absurd (grind (arith, nat_tests))
not_failing text fault is l = absurd is

-- a plan was read, and then the command ended as it leaves one
pub ends_read : (task : Task) (source : Option Place) (v : Values) (result : Result ⊤ CliFault)
    (old mid new : WireLog) → GivesPlanFrom source (Ok v) old mid → LeavesStudy task v result mid new
    → EndsRead (CommandAnswers task) source old new result
ends_read task None v result old mid new given left = ends_left task v result old mid new given left
ends_read task (Some place) v result old mid new given left = elim given [
  | inl read ↦ record {
    text = read.0;
    is = read.1.0;
    written = left.written;
    log = left.log ∙ ap (λ (l : WireLog). failed_by result (wrote l left.written)) read.1.2;
    answers =
        answers_text task read.0 (nat_lt (length read.0) 65537) v result left.written read.1.1.0 read.1.1.1 left.answers;
  }
  | inr unread ↦ absurd unread
]

pub ends_left_from : (task : Task) (source : Option Place) (v : Values) (result : Result ⊤ CliFault)
    (old mid new : WireLog) → GivesPlanFrom source (Ok v) old mid → LeavesStudy task v result mid new
    → EndsCommandFrom task source old new result
ends_left_from task None v result old mid new given left = ends_read task None v result old mid new given left
ends_left_from task (Some place) v result old mid new given left =
    inl (ends_read task (Some place) v result old mid new given left)

-- a text was read that is none
pub ends_refused_text : (task : Task) (place : Place) (fault : CliFault) (old new : WireLog) (text : List ℕ)
    → IsPlanText place text → IsReadAs text (nat_lt (length text) 65537) (Err fault) → new ≡ old
    → EndsOnText (CommandAnswers task) place old new (Err fault)
ends_refused_text task place fault old new text is none same = record {
  text = text;
  is = is;
  written = [];
  log = same ∙ sym (not_failing text fault none old) ∙ ap (λ (l : WireLog). failing fault l) (sym (wrote_none old));
  answers = answers_none task text (nat_lt (length text) 65537) fault none;
}

-- no plan was read
pub ends_unread_from : (task : Task) (source : Option Place) (fault : CliFault) (old new : WireLog)
    → GivesPlanFrom source (Err fault) old new → EndsCommandFrom task source old new (Err fault)
ends_unread_from task None fault old new given = ends_unread task fault old new given
ends_unread_from task (Some place) fault old new given = elim given [
  | inl read ↦ inl (ends_refused_text task place fault old new read.0 read.1.0 read.1.1 read.1.2)
  | inr unread ↦ inr unread
]

-- ends for one task as for another
pub ends_read_as : (a b : Task) (source : Option Place) (old new : WireLog) (r : Result ⊤ CliFault) → Weakens a b
    → EndsRead (CommandAnswers a) source old new r → EndsRead (CommandAnswers b) source old new r
ends_read_as a b None old new r weak ends = ends_as a b old new r weak ends
ends_read_as a b (Some place) old new r weak ends = record {
  text = ends.text;
  is = ends.is;
  written = ends.written;
  log = ends.log;
  answers = answers_as a b ends.text weak (nat_lt (length ends.text) 65537) r ends.written ends.answers;
}

-- a command ends as one that read its plan
pub ends_from_read : (answering : List ℕ → Bool → Result ⊤ CliFault → List ℕ → Type 0) (source : Option Place)
    (old new : WireLog) (r : Result ⊤ CliFault) → EndsRead answering source old new r
    → EndsFrom answering source old new r
ends_from_read answering None old new r ends = ends
ends_from_read answering (Some place) old new r ends = inl ends

-- or as one that did not
pub ends_from_unread : (answering : List ℕ → Bool → Result ⊤ CliFault → List ℕ → Type 0) (source : Option Place)
    (old new : WireLog) (r : Result ⊤ CliFault) → HasUnread source r old new → EndsFrom answering source old new r
ends_from_unread answering None old new r unread = absurd unread
ends_from_unread answering (Some place) old new r unread = inr unread
