-- What a study leaves, by what its parts say.
use Rattle.std.proofs.Common.{◌≡◌, ◌∙◌, ℕ, Bool, true, false, List, [], Option, Some, None, Result, Ok, Err, is_some}
use Rattle.std.proofs.Common.{length, nat_lt, take, refl, ap, sym, subst, arith, inl, inr}
use Rattle.std.proofs.Common.{IfErr, IsErrOf, IsOk}
use Rattle.std.specs.Bool.{⊤}
use Rattle.std.specs.Prelude.{Vec, option_map}
use Rattle.cut_plan.specs.Accepted.{plan_of}
use Rattle.cut_plan.specs.Plan.{IsPlan}
use Rattle.cut_plan.specs.Values.{Values}
use Rattle.cut_disks.specs.Log.{DiskLog, Goes}
use Rattle.cut_files.specs.Place.{Place}
use Rattle.cut_ledger.specs.declared.slip.Slip.{Slip}
use Rattle.cut_ledger.specs.Laws.{TrueSlipsAreGood, TrueSlipsGiveTheTable, NoSlipsAreTrue}
use Rattle.cut_ledger.specs.Table.{table_over}
use Rattle.cut_ledger.specs.Slips.{AreGood}
use Rattle.cut_ledger.specs.World.{AreTrue}
use Rattle.cut_ledger.proofs.SlipLemmas.{none_bad}
use Rattle.cut_journal.specs.declared.fault.JournalFault.TheVariants as journal
use Rattle.cut_journal.specs.Journal.{JournalValue}
use Rattle.cut_journal.specs.Opening.{IsOpened}
use Rattle.cut_book.specs.Book.{failed_since}
use Rattle.cut_wires.specs.Log.{WireLog, wrote}
use Rattle.cut_pool.specs.Leaving.{LeavesDisk, LeavesRun}
use Rattle.cut_pool.specs.Running.{HasEnded, Takes, slips_of}
use Rattle.cut_pool.specs.declared.run_fault.RunFault.{RunFault}
use Rattle.cut_pool.specs.declared.run_fault.RunFault.TheVariants as study
use Rattle.cut_pool.specs.declared.study_run.Done.{Done}
use Rattle.cut_commands.specs.declared.fault.CliFault.{CliFault}
use Rattle.cut_commands.specs.declared.fault.CliFault.TheVariants.{Memory, Plan, Read, Journal, BadSlip, Checkpoint}
use Rattle.cut_commands.specs.declared.fault.CliFault.TheVariants.{WorkMemory, AuditMismatch}
use Rattle.cut_commands.specs.Faults.{fault_of_study}
use Rattle.cut_commands.specs.Run.{CommandAnswers, EndsCommandFrom, GivesPlanFrom, IsPrefix, IsReadAs, LeavesStudy}
use Rattle.cut_commands.specs.Run.{LeavesUnread}
use Rattle.cut_commands.specs.Study.{BeginsWith, IsTrueStore, IsStopped, KeepsOn, KeepsStudy, LeavesUnopened}
use Rattle.cut_commands.specs.Study.{RunsFrom, StudyWrites, StudyFails, StoreFails, plain_task, study_task, table_task}
use Rattle.cut_commands.specs.inside.Study.{IsNotOpened, IsOpenedOver, MayLeave, RunsPlan}
use Rattle.cut_wires.proofs.Logs.{wrote_none}
use Rattle.cut_commands.proofs.RunLemmas.{Weakens, ends_unread, leaves_nothing}
use Rattle.cut_commands.proofs.Sources.{ends_from_read, ends_from_unread, ends_read, ends_read_as, ends_refused_text}

-- ---- what a study keeps

-- the end of the command by that of the run
abbrev pub ended_of : Result Done RunFault → Result ⊤ CliFault
ended_of (Ok done) = Ok tt
ended_of (Err fault) = Err (fault_of_study fault)

ok_of : (ended : Result Done RunFault) → IsOk (ended_of ended) → IsOk ended
ok_of (Ok done) ok = refl
ok_of (Err fault) ok = absurd (let no : ⊥ = cc in no)

cause_of : (ended : Result Done RunFault) → IsErrOf (ended_of ended) Checkpoint → IsErrOf ended study.Checkpoint
cause_of (Ok done) is = absurd (let no : ⊥ = cc in no)
cause_of (Err study.Checkpoint) is = refl
cause_of (Err (study.BadSlip number)) is = absurd (let no : ⊥ = cc in no)
cause_of (Err (study.Write fault)) is = absurd (let no : ⊥ = cc in no)
cause_of (Err study.WorkMemory) is = absurd (let no : ⊥ = cc in no)
cause_of (Err study.AuditMismatch) is = absurd (let no : ⊥ = cc in no)

bad_of : (ended : Result Done RunFault) (number : ℕ) → ended_of ended ≡ Err (BadSlip number)
    → ended ≡ Err (study.BadSlip number)
bad_of (Ok done) number is = absurd (let no : ⊥ = cc in no)
bad_of (Err (study.BadSlip n)) number is = (let same : n ≡ number = cc in ap (λ m. Err (study.BadSlip m)) same)
bad_of (Err study.Checkpoint) number is = absurd (let no : ⊥ = cc in no)
bad_of (Err (study.Write fault)) number is = absurd (let no : ⊥ = cc in no)
bad_of (Err study.WorkMemory) number is = absurd (let no : ⊥ = cc in no)
bad_of (Err study.AuditMismatch) number is = absurd (let no : ⊥ = cc in no)

module _ {D : Type 0} (log_of : D → DiskLog) (v : Values) (ended : Result Done RunFault) where
  keeps_on : (slips : List Slip) (disk mid back : D) → Goes (λ n. n) (IsOpened v slips) (log_of disk) (log_of mid)
      → LeavesRun v slips ended (log_of mid) (log_of back)
      → KeepsOn (ended_of ended) v slips (log_of disk) (log_of back)
  keeps_on slips disk mid back opened left = record {
    added = left.added;
    doubtful = left.doubtful;
    own = left.own;
    all = λ ok. left.all (ok_of ended ok);
    cause = λ is. left.cause (cause_of ended is);
    opened = λ number is known. (let same : log_of back ≡ log_of mid = left.untouched number (bad_of ended number is) in
        rw same (opened.state known).moments);
    known = left.known ∙ opened.known;
    failures = left.failures ∙ ap (λ (n : ℕ). failed_since (is_some left.doubtful) n) opened.faults;
    keeps = λ known. left.keeps (opened.known ∙ known);
  }

  pub keeps_study : {A : Type 0} (disk : Option D) (kept : Option (JournalValue D × Vec Slip A)) (back : Option D)
      → IsOpenedOver log_of v disk kept → LeavesDisk log_of v kept ended back
      → KeepsStudy (ended_of ended) v (slips_of kept) (option_map log_of disk) (option_map log_of back)
  keeps_study None None back opened left = ap (option_map log_of) left
  keeps_study None (Some k) back opened left = absurd opened
  keeps_study (Some d) None back opened left = absurd opened
  keeps_study (Some d) (Some k) None opened left = absurd left
  keeps_study (Some d) (Some k) (Some b) opened left = keeps_on k.1.items d k.0.disk b opened left

  -- the disk comes back where there is one
  pub comes_back : {A : Type 0} (disk : Option D) (kept : Option (JournalValue D × Vec Slip A)) (back : Option D)
      → IsOpenedOver log_of v disk kept → LeavesDisk log_of v kept ended back → is_some back ≡ is_some disk
  comes_back None None back opened left = ap is_some left
  comes_back None (Some k) back opened left = absurd opened
  comes_back (Some d) None back opened left = absurd opened
  comes_back (Some d) (Some k) None opened left = absurd left
  comes_back (Some d) (Some k) (Some b) opened left = refl

-- ---- what a study leaves

module _ (disk back : Option DiskLog) (v : Values) where
  -- nothing, where its journal was not opened
  pub runs_none : (fault : CliFault) (l : WireLog) → IsNotOpened disk back v fault
      → RunsPlan v disk back l l (Err fault)
  runs_none Memory l is =
      record { study = leaves_nothing (study_task (Err Memory) disk back) v Memory l refl refl; unopened = is }
  runs_none (Journal fault) l is = record {
    study = leaves_nothing (study_task (Err (Journal fault)) disk back) v (Journal fault) l refl (is, refl);
    unopened = tt;
  }
  runs_none fault l is = absurd is

  module _ (slips : List Slip) (begins : BeginsWith disk v slips) where
    -- the table over the slips with which it began
    writes : (ended : Result ⊤ CliFault) → KeepsStudy ended v slips disk back → AreGood v slips
        → StudyWrites ended disk back v (table_over v slips)
    writes ended keeps good =
        record { slips = slips; begins = begins; over = record { good = good; is = refl }; keeps = keeps }

    -- some first bytes of it
    abbrev prefix : (ended : Result ⊤ CliFault) (count : ℕ) → KeepsStudy ended v slips disk back → AreGood v slips
        → IsPrefix (study_task ended disk back) v (take count (table_over v slips))
    prefix ended count keeps good = record {
      whole = table_over v slips;
      answer = writes ended keeps good;
      count = count;
      prefix = refl;
    }

    abbrev stopped : (fault : CliFault) → KeepsStudy (Err fault) v slips disk back → IsStopped fault disk back v
    stopped fault keeps = record { slips = slips; begins = begins; keeps = keeps }

    pub runs_all : (size : ℕ) (done : Done) (old new : WireLog) → KeepsStudy (Ok tt) v slips disk back
        → HasEnded v slips (is_some disk) size (Ok done) → Takes v slips (Ok done) old new
        → RunsPlan v disk back old new (Ok tt)
    runs_all size done old new keeps ended takes = record {
      study = record { written = table_over v slips; log = takes; answers = writes (Ok tt) keeps ended.0 };
      unopened = tt;
    }

-- why not all of it was written
leaves_some : (disk back : Option DiskLog) (v : Values) (slips : List Slip) (size : ℕ) (fault : RunFault)
    (old new : WireLog) → BeginsWith disk v slips
    → KeepsStudy (Err (fault_of_study fault)) v slips disk back
    → HasEnded v slips (is_some disk) size (Err fault) → Takes v slips (Err fault) old new
    → LeavesStudy (study_task (Err (fault_of_study fault)) disk back) v (Err (fault_of_study fault)) old new
leaves_some None back v slips size (study.BadSlip number) old new begins keeps ended takes =
    absurd (omega (arith, ended.numbered, ended.within, ap (λ (ss : List Slip). length ss) begins))
leaves_some (Some d) back v slips size (study.BadSlip number) old new begins keeps ended takes = record {
  written = [];
  log = takes ∙ sym (wrote_none old);
  answers = ((stopped (Some d) back v slips begins (BadSlip number) keeps, ended), refl);
}
leaves_some None back v slips size study.Checkpoint old new begins keeps ended takes =
    absurd (let not : false ≡ true = ended.1 in cc)
leaves_some (Some d) back v slips size study.Checkpoint old new begins keeps ended takes = record {
  written = take takes.0 (table_over v slips);
  log = takes.1;
  answers = (
    stopped (Some d) back v slips begins Checkpoint keeps,
    prefix (Some d) back v slips begins (Err Checkpoint) takes.0 keeps ended.0,
  );
}
leaves_some disk back v slips size (study.Write fault) old new begins keeps ended takes = record {
  written = take fault.sent (table_over v slips);
  log = takes;
  answers = (prefix disk back v slips begins (Err (fault_of_study (study.Write fault))) fault.sent keeps ended.0, refl, ended.1);
}
leaves_some disk back v slips size study.WorkMemory old new begins keeps ended takes = elim takes [
  | inl same ↦ record {
    written = [];
    log = same ∙ sym (wrote_none old);
    answers = (may_stop disk (stopped disk back v slips begins WorkMemory keeps), inl refl);
  }
  | inr some ↦ record {
    written = take some.1.0 (table_over v slips);
    log = some.1.1;
    answers = (
      may_stop disk (stopped disk back v slips begins WorkMemory keeps),
      inr (prefix disk back v slips begins (Err WorkMemory) some.1.0 keeps some.0),
    );
  }
]
  where
    may_stop : (disk : Option DiskLog) → IsStopped WorkMemory disk back v → StudyFails disk back v WorkMemory
    may_stop None is = (tt, is)
    may_stop (Some d) is = (tt, is)
leaves_some disk back v slips size study.AuditMismatch old new begins keeps ended takes = record {
  written = take takes.0 (table_over v slips);
  log = takes.1;
  answers = (
    may_stop disk (stopped disk back v slips begins AuditMismatch keeps),
    prefix disk back v slips begins (Err AuditMismatch) takes.0 keeps ended,
  );
}
  where
    may_stop : (disk : Option DiskLog) → IsStopped AuditMismatch disk back v → StudyFails disk back v AuditMismatch
    may_stop None is = (tt, is)
    may_stop (Some d) is = (tt, is)

no_memory : (disk back : Option DiskLog) (v : Values) (fault : RunFault) → MayLeave v disk back (fault_of_study fault)
no_memory disk back v (study.BadSlip number) = tt
no_memory disk back v study.Checkpoint = tt
no_memory disk back v (study.Write fault) = tt
no_memory disk back v study.WorkMemory = tt
no_memory disk back v study.AuditMismatch = tt

pub runs_some : (disk back : Option DiskLog) (v : Values) (slips : List Slip) (size : ℕ) (fault : RunFault)
    (old new : WireLog) → BeginsWith disk v slips
    → KeepsStudy (Err (fault_of_study fault)) v slips disk back
    → HasEnded v slips (is_some disk) size (Err fault) → Takes v slips (Err fault) old new
    → RunsPlan v disk back old new (Err (fault_of_study fault))
runs_some disk back v slips size fault old new begins keeps ended takes = record {
  study = leaves_some disk back v slips size fault old new begins keeps ended takes;
  unopened = no_memory disk back v fault;
}

-- ---- over a disk whose slips are true

-- the slips with which a study over a true store begins are true
begins_true : (disk : Option DiskLog) (v : Values) (slips : List Slip) → NoSlipsAreTrue → IsPlan v
    → IsTrueStore disk
    → BeginsWith disk v slips → AreTrue v slips
begins_true None v slips none plan store begins = subst (AreTrue v) (sym begins) (none v)
begins_true (Some d) v slips none plan store begins = elim (begins store.0) [
  | inl read ↦ store.1 v slips plan read
  | inr empty ↦ subst (AreTrue v) (sym empty.1) (none v)
]

fails_true : (disk back : Option DiskLog) (v : Values) (fault : CliFault) → TrueSlipsAreGood → NoSlipsAreTrue → IsPlan v
    → IsTrueStore disk
    → StudyFails disk back v fault → StoreFails disk v fault
fails_true None back v fault good none plan store is = is.0
fails_true (Some d) back v (Journal fault) good none plan store is = (is.0, is.1 store.0)
fails_true (Some d) back v (BadSlip number) good none plan store is =
    absurd (none_bad v is.0.slips number
    (good v is.0.slips (begins_true (Some d) v is.0.slips none plan store is.0.begins)) is.1)
fails_true (Some d) back v Checkpoint good none plan store is = tt
fails_true (Some d) back v fault good none plan store is = is.0

-- a study over a true store writes the plan's table
over_true_store : (ended : Result ⊤ CliFault) (disk back : Option DiskLog)
    → ((text : List ℕ) (v : Values) → plan_of text ≡ Ok v → IsPlan v)
    → TrueSlipsAreGood → TrueSlipsGiveTheTable → NoSlipsAreTrue
    → IsTrueStore disk → Weakens (study_task ended disk back) (table_task disk)
over_true_store ended disk back plans good gives none store = record {
  answers = λ text v whole reads written.
      written.over.is ∙ gives v written.slips (plans text v reads)
      (begins_true disk v written.slips none (plans text v reads) store written.begins);
  fails = λ text v fault reads is. fails_true disk back v fault good none (plans text v reads) store is;
}

-- ---- how it ends, by where its plan is read from

module _ (laws : (text : List ℕ) (v : Values) → plan_of text ≡ Ok v → IsPlan v) (good : TrueSlipsAreGood)
    (gives : TrueSlipsGiveTheTable) (none : NoSlipsAreTrue) (plan : Option Place) (disk : Option DiskLog) where
  unread_kept : (back : Option DiskLog) (v : Values) (old mid new : WireLog) (fault : CliFault)
      → GivesPlanFrom plan (Ok v) old mid → RunsPlan v disk back mid new (Err fault)
      → LeavesUnread (λ v. LeavesUnopened v journal.Memory) plan fault disk back old new
  unread_kept back v old mid new Read given is = absurd is.unopened
  unread_kept back v old mid new (Plan refusal) given is = absurd is.unopened
  unread_kept back v old mid new Memory given is =
      let same : new ≡ mid = is.study.log ∙ ap (λ (w : List ℕ). wrote mid w) is.study.answers ∙ wrote_none mid in
      inr (v, (rw same given, is.unopened))
  unread_kept back v old mid new fault given is = tt

  -- its plan was read
  pub runs_on : (back : Option DiskLog) (v : Values) (old mid new : WireLog) (ended : Result ⊤ CliFault)
      → GivesPlanFrom plan (Ok v) old mid → RunsPlan v disk back mid new ended
      → RunsFrom disk back plan old new ended
  runs_on back v old mid new ended given is =
      let command = ends_read (study_task ended disk back) plan v ended old mid new given is.study in
      inl (record {
        command = command;
        table = λ store. ends_read_as (study_task ended disk back) (table_task disk) plan old new ended
            (over_true_store ended disk back laws good gives none store) command;
        unread = by ended is;
      })
    where
      by : (ended : Result ⊤ CliFault) → RunsPlan v disk back mid new ended
          → IfErr ended (λ fault. LeavesUnread (λ v. LeavesUnopened v journal.Memory) plan fault disk back old new)
      by (Ok done) is = tt
      by (Err fault) is = unread_kept back v old mid new fault given is

-- ---- its plan was not read

unread_same : (plan : Option Place) (fault : CliFault) (disk : Option DiskLog) (text : List ℕ) (ended : Bool)
    (old new : WireLog) → IsReadAs text ended (Err fault)
    → LeavesUnread (λ v. LeavesUnopened v journal.Memory) plan fault disk disk old new
unread_same plan Memory disk text ended old new is = inl refl
unread_same plan Read disk text ended old new is = refl
unread_same plan (Plan refusal) disk text ended old new is = refl
unread_same plan fault disk text ended old new is = absurd is

pub runs_unread : (plan : Option Place) (fault : CliFault) (disk : Option DiskLog) (old new : WireLog)
    → GivesPlanFrom plan (Err fault) old new → RunsFrom disk disk plan old new (Err fault)
runs_unread None fault disk old new given = inl (record {
  command = ends_unread (study_task (Err fault) disk disk) fault old new given;
  table = λ store. ends_unread (table_task disk) fault old new given;
  unread = unread_same None fault disk given.text given.ended old new given.is;
})
runs_unread (Some place) fault disk old new given = elim given [
  | inl read ↦ inl (record {
    command = ends_refused_text (study_task (Err fault) disk disk) place fault old new read.0 read.1.0 read.1.1 read.1.2;
    table = λ store. ends_refused_text (table_task disk) place fault old new read.0 read.1.0 read.1.1 read.1.2;
    unread = unread_same (Some place) fault disk read.0 (nat_lt (length read.0) 65537) old new read.1.1;
  })
  | inr unread ↦ inr (refl, unread)
]

-- ---- without a disk

-- it has the table of its plan
pub plain_ends : (plan : Option Place) (back : Option DiskLog) (old new : WireLog) (ended : Result ⊤ CliFault)
    → RunsFrom None back plan old new ended → EndsCommandFrom plain_task plan old new ended
plain_ends plan back old new ended runs = elim runs [
  | inl over ↦ ends_from_read (CommandAnswers plain_task) plan old new ended (over.table tt)
  | inr unread ↦ ends_from_unread (CommandAnswers plain_task) plan old new ended unread.1
]
