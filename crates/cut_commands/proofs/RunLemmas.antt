-- How a command ends, by its parts.
use Rattle.std.proofs.Common.{true, false, ◌≡◌, ◌∙◌, ℕ, List, [], Bool, Some, None, Result, Ok, Err, cond, length, take}
use Rattle.std.proofs.Common.{refl, sym, ap, nat_lt, inl, inr}
use Rattle.std.specs.Bool.{⊤}
use Rattle.std.specs.Str.{is_utf8}
use Rattle.cut_plan.specs.Values.{Values}
use Rattle.cut_plan.specs.Accepted.{plan_of}
use Rattle.cut_plan.specs.declared.refusal.Refusal.TheVariants.{NotJson, PlanTooLong}
use Rattle.cut_wires.specs.Log.{WireLog, wrote}
use Rattle.cut_commands.specs.Run.{AnswersPlan, CommandAnswers, EndsCommand, GivesPlan, IsPrefix, IsReadAs}
use Rattle.cut_commands.specs.Run.{IsReadThrough, IsWritten, LeavesStudy, failing, failed_by, read_on, refused_at_sight}
use Rattle.cut_commands.specs.Task.{Task}
use Rattle.cut_commands.specs.declared.fault.CliFault.{CliFault}
use Rattle.cut_commands.specs.declared.fault.CliFault.TheVariants.{Memory, Plan, Read, Write, Journal, BadSlip, Store}
use Rattle.cut_commands.specs.declared.fault.CliFault.TheVariants.{Checkpoint, WorkMemory, AuditMismatch}
use Rattle.cut_wires.proofs.Logs.{wrote_none}

-- ---- working on a plan

-- an accepted plan is not refused at sight
accepted_at_sight : (text : List ℕ) (v : Values) → plan_of text ≡ Ok v → refused_at_sight text ≡ None
unfolding plan_of
accepted_at_sight text v is = by (nat_lt 65536 (length text)) (is_utf8 text) refl refl
  where
    by : (b u : Bool) → nat_lt 65536 (length text) ≡ b → is_utf8 text ≡ u
        → cond b (Some PlanTooLong) (cond u None (Some NotJson)) ≡ None
    by true u is_long is_text = absurd (let bad = rw is_long at is in cc)
    by false true is_long is_text = refl
    by false false is_long is_text = absurd (let bad = rw (is_long, is_text) at is in cc)

-- what is written to a plan is written to its text
pub answers_text : (task : Task) (text : List ℕ) (ended : Bool) (v : Values) (result : Result ⊤ CliFault) (written : List ℕ)
    → IsReadThrough 65537 text ended → plan_of text ≡ Ok v → AnswersPlan task v result written
    → CommandAnswers task text ended result written
answers_text task text ended v (Ok done) written through read is = (through, (v, read, is))
answers_text task text ended v (Err Memory) written through read is = (inr (through, accepted_at_sight text v read), is)
answers_text task text ended v (Err Read) written through read is = absurd is
answers_text task text ended v (Err (Plan refusal)) written through read is = absurd is
answers_text task text ended v (Err fault) written through read is = (through, (v, read, is))

-- a plan was read, and then the command ended as it leaves one
pub ends_left : (task : Task) (v : Values) (result : Result ⊤ CliFault) (old mid new : WireLog)
    → GivesPlan (Ok v) old mid
    → LeavesStudy task v result mid new → EndsCommand task old new result
ends_left task v result old mid new given left = record {
  text = given.text;
  ended = given.ended;
  written = left.written;
  log = left.log ∙ ap (λ (l : WireLog). failed_by result (wrote l left.written)) given.log;
  answers = answers_text task given.text given.ended v result left.written given.is.0 given.is.1 left.answers;
}

-- ---- no plan

pub answers_none : (task : Task) (text : List ℕ) (ended : Bool) (fault : CliFault) → IsReadAs text ended (Err fault)
    → CommandAnswers task text ended (Err fault) []
answers_none task text ended Memory is = (is, refl)
answers_none task text ended Read is = (is, refl)
answers_none task text ended (Plan refusal) is = (is.0, is.1, refl)
answers_none task text ended fault is = absurd is

pub ends_unread : (task : Task) (fault : CliFault) (old new : WireLog) → GivesPlan (Err fault) old new
    → EndsCommand task old new (Err fault)
ends_unread task fault old new given = record {
  text = given.text;
  ended = given.ended;
  written = [];
  log = given.log ∙ ap (λ (l : WireLog). failing fault l) (sym (wrote_none (read_on given.text given.ended old)));
  answers = answers_none task given.text given.ended fault given.is;
}

-- ---- what is left

-- nothing
pub leaves_nothing : (task : Task) (v : Values) (fault : CliFault) (l : WireLog) → failing fault l ≡ l
    → AnswersPlan task v (Err fault) [] → LeavesStudy task v (Err fault) l l
leaves_nothing task v fault l same is = record {
  written = [];
  log = sym same ∙ ap (λ (m : WireLog). failing fault m) (sym (wrote_none l));
  answers = is;
}

-- the bytes of an answer, or some of the first
pub leaves_answer : (task : Task) (v : Values) (whole : List ℕ) (result : Result ⊤ CliFault) (old new : WireLog)
    → task.answers v whole → IsWritten whole result old new → LeavesStudy task v result old new
leaves_answer task v whole (Ok done) old new answer is = record { written = whole; log = is; answers = answer }
leaves_answer task v whole (Err (Write fault)) old new answer is = record {
  written = take fault.sent whole;
  log = is.1;
  answers = (record { whole = whole; answer = answer; count = fault.sent; prefix = refl }, refl, is.0);
}
leaves_answer task v whole (Err fault) old new answer is = absurd is

-- ---- one task as another

-- a plan that a text is, and what is answered to it, as another task has them
pub record Weakens (a b : Task) : Type 0 where
  pub answers : (text : List ℕ) (v : Values) (whole : List ℕ) → plan_of text ≡ Ok v → a.answers v whole
      → b.answers v whole
  pub fails : (text : List ℕ) (v : Values) (fault : CliFault) → plan_of text ≡ Ok v → a.fails v fault → b.fails v fault

module _ (a b : Task) (text : List ℕ) (weak : Weakens a b) where
  prefix_as : (v : Values) (written : List ℕ) → plan_of text ≡ Ok v → IsPrefix a v written → IsPrefix b v written
  prefix_as v written read p = record {
    whole = p.whole;
    answer = weak.answers text v p.whole read p.answer;
    count = p.count;
    prefix = p.prefix;
  }

  answers_plan_as : (v : Values) (r : Result ⊤ CliFault) (written : List ℕ) → plan_of text ≡ Ok v
      → AnswersPlan a v r written → AnswersPlan b v r written
  unfolding prefix_as
  answers_plan_as v (Ok done) written read is = weak.answers text v written read is
  answers_plan_as v (Err (Write fault)) written read is = (prefix_as v written read is.0, is.1, is.2)
  answers_plan_as v (Err Memory) written read is = is
  answers_plan_as v (Err (Journal fault)) written read is = (weak.fails text v (Journal fault) read is.0, is.1)
  answers_plan_as v (Err (BadSlip number)) written read is = (weak.fails text v (BadSlip number) read is.0, is.1)
  answers_plan_as v (Err (Store fault)) written read is = (weak.fails text v (Store fault) read is.0, is.1)
  answers_plan_as v (Err WorkMemory) written read is = (
    weak.fails text v WorkMemory read is.0,
    elim is.1 [
      | inl none ↦ inl none
      | inr p ↦ inr (prefix_as v written read p)
    ],
  )
  answers_plan_as v (Err Checkpoint) written read is =
      (weak.fails text v Checkpoint read is.0, prefix_as v written read is.1)
  answers_plan_as v (Err AuditMismatch) written read is =
      (weak.fails text v AuditMismatch read is.0, prefix_as v written read is.1)
  answers_plan_as v (Err fault) written read is = absurd is

  pub answers_as : (ended : Bool) (r : Result ⊤ CliFault) (written : List ℕ) → CommandAnswers a text ended r written
      → CommandAnswers b text ended r written
  answers_as ended (Ok done) written is =
      (is.0, (is.1.0, is.1.1, answers_plan_as is.1.0 (Ok done) written is.1.1 is.1.2))
  answers_as ended (Err Read) written is = is
  answers_as ended (Err (Plan refusal)) written is = is
  answers_as ended (Err Memory) written is = is
  answers_as ended (Err fault) written is =
      (is.0, (is.1.0, is.1.1, answers_plan_as is.1.0 (Err fault) written is.1.1 is.1.2))

pub ends_as : (a b : Task) (old new : WireLog) (r : Result ⊤ CliFault) → Weakens a b → EndsCommand a old new r
    → EndsCommand b old new r
ends_as a b old new r weak e = record {
  text = e.text;
  ended = e.ended;
  written = e.written;
  log = e.log;
  answers = answers_as a b e.text weak e.ended r e.written e.answers;
}
