-- How a join of checkpoints ends, by its parts.
use Rattle.std.proofs.Common.{◌≡◌, ◌∙◌, inl, inr, ℕ, List, ◌∷◌, Option, Some, None, Result, Ok, Err}
use Rattle.std.proofs.Common.{Bool, length, refl, sym, ap, subst, arith, length-append}
use Rattle.std.specs.Bool.{⊤}
use Rattle.cut_plan.specs.Values.{Values}
use Rattle.cut_disks.specs.Log.{is_known}
use Rattle.cut_files.specs.Place.{IsOpen, Place, opened}
use Rattle.cut_files.proofs.Places.{opened_open}
use Rattle.cut_files.specs.declared.files.OpenFault.{OpenFault}
use Rattle.cut_files.specs.declared.files.OpenFault.TheVariants as unopened
use Rattle.cut_wires.specs.Log.{WireLog}
use Rattle.cut_commands.specs.Run.{GivesPlanFrom, HasUnread, IsReadAs, IsWritten, LeavesStudy}
use Rattle.cut_commands.specs.Faults.{fault_of_files}
use Rattle.cut_commands.specs.declared.fault.CliFault.{CliFault}
use Rattle.cut_commands.specs.declared.fault.CliFault.TheVariants.{Memory, Plan, Read, Write, Journal, BadSlip, Store}
use Rattle.cut_commands.proofs.RunLemmas.{leaves_answer, leaves_nothing}
use Rattle.cut_commands.proofs.Sources.{ends_read}
use Rattle.cut_machines.specs.JoinCommand.{AreUntouched, EndsJoinFrom, JoinFiles, JoinWrites, LeavesOther}
use Rattle.cut_machines.specs.JoinCommand.{NamesRefused, NamesRefusedFile, StopsJoin, join_task}
use Rattle.cut_machines.specs.inside.JoinCommand.{EndsJoining, NamesOld}
use Rattle.cut_machines.specs.inside.JoinSources.{StaysOpen}
use Rattle.cut_machines.proofs.Unread.{ends_without}

module _ (plan : Option Place) (files : JoinFiles) (known : is_known files.back ≡ is_known files.disk) where
  -- ---- no plan was read

  unread : (fault : CliFault) (old new : WireLog) (text : List ℕ) (ended : Bool) → IsReadAs text ended (Err fault)
      → AreUntouched files
      → NamesRefused plan files old new (Err fault) None × LeavesOther plan files old new (Err fault)
  unread Memory old new text ended is same = (refl, inl same)
  unread Read old new text ended is same = (refl, same)
  unread (Plan refusal) old new text ended is same = (refl, same)
  unread fault old new text ended is same = absurd is

  pub ends_without_plan : (fault : CliFault) (old new : WireLog) → AreUntouched files
      → GivesPlanFrom plan (Err fault) old new → EndsJoinFrom plan files old new (Err fault) None
  ends_without_plan fault old new same given = elim (ends_without (join_task files) plan fault old new given) [
    | inl none ↦
        (let left = unread fault old new none.text none.ended none.is same in
        inl (record { command = none.ends; names = left.0; other = left.1; known = known }))
    | inr out ↦ inr (same, refl, out)
  ]

  -- ---- slips were not all joined

  stopped : (v : Values) (fault : CliFault) (refused : Option ℕ) (old new : WireLog) → GivesPlanFrom plan (Ok v) old new
      → StopsJoin files v fault → NamesOld files v fault refused
      → LeavesStudy (join_task files) v (Err fault) new new × NamesRefused plan files old new (Err fault) refused
      × LeavesOther plan files old new (Err fault)
  stopped v Memory refused old new given stops named =
      (leaves_nothing _ v Memory new refl refl, named, inr (v, (given, stops)))
  stopped v (Journal fault) refused old new given stops named =
      (leaves_nothing _ v (Journal fault) new refl (stops, refl), (v, (given, named)), tt)
  stopped v (BadSlip n) refused old new given stops named =
      (leaves_nothing _ v (BadSlip n) new refl (stops, refl), named, tt)
  stopped v (Store fault) refused old new given stops named =
      (leaves_nothing _ v (Store fault) new refl (stops, refl), named, tt)
  stopped v fault refused old new given (inl reading) named = absurd reading.0
  stopped v fault refused old new given (inr writing) named = absurd writing.0

  pub ends_stopped : (v : Values) (fault : CliFault) (refused : Option ℕ) (old new : WireLog)
      → GivesPlanFrom plan (Ok v) old new → EndsJoining files v (Err fault) refused
      → EndsJoinFrom plan files old new (Err fault) refused
  ends_stopped v fault refused old new given ends =
      let left = stopped v fault refused old new given ends.0 ends.1 in
      inl (record {
        command = ends_read (join_task files) plan v (Err fault) old new new given left.0;
        names = left.1;
        other = left.2;
        known = known;
      })

  -- ---- all were joined

  written : (whole : List ℕ) (result : Result ⊤ CliFault) (refused : Option ℕ) (old mid new : WireLog)
      → IsWritten whole result mid new → refused ≡ None
      → NamesRefused plan files old new result refused × LeavesOther plan files old new result
  written whole (Ok done) refused old mid new is none = (none, tt)
  written whole (Err (Write fault)) refused old mid new is none = (none, tt)
  written whole (Err fault) refused old mid new is none = absurd is

  pub ends_joined : (v : Values) (whole : List ℕ) (result : Result ⊤ CliFault) (refused : Option ℕ)
      (old mid new : WireLog) → GivesPlanFrom plan (Ok v) old mid → JoinWrites files v whole → refused ≡ None
      → IsWritten whole result mid new → EndsJoinFrom plan files old new result refused
  ends_joined v whole result refused old mid new given writes none is =
      let left = written whole result refused old mid new is none in
      inl (record {
        command = ends_read (join_task files) plan v result old mid new given
            (leaves_answer (join_task files) v whole result mid new writes is);
        names = left.0;
        other = left.1;
        known = known;
      })

-- ---- which file is refused

names_refused : (plan : Option Place) (files : JoinFiles) (old new : WireLog) (ended : Result ⊤ CliFault)
    (refused : Option ℕ) → NamesRefused plan files old new ended refused
    → NamesRefusedFile (length files.old) ended refused
names_refused plan files old new (Ok done) refused named = named
names_refused plan files old new (Err (Journal fault)) (Some n) (v, (given, (first, same))) =
    let all = ap (λ (ps : List (List ℕ)). length ps) first.0.all in
    let parts = length-append first.0.before (first.0.path ∷ first.0.after) in
    (omega (arith, first.1), omega (arith, all, parts, first.1), first.0.refused.may)
names_refused plan files old new (Err (Journal fault)) None named = named.1.1.0
names_refused plan files old new (Err fault) refused named = named

-- no old one is where a file was not read
names_of_files : (count : ℕ) (cause : OpenFault) → NamesRefusedFile count (Err (fault_of_files cause)) None
names_of_files count unopened.Memory = refl
names_of_files count unopened.Disk = tt

names_unread : (count : ℕ) (plan : Option Place) (ended : Result ⊤ CliFault) (old new : WireLog)
    → HasUnread plan ended old new → NamesRefusedFile count ended None
names_unread count None ended old new unread = absurd unread
names_unread count (Some place) (Ok done) old new unread = absurd unread
names_unread count (Some place) (Err fault) old new unread =
    subst (λ (f : CliFault). NamesRefusedFile count (Err f) None) (sym unread.2) (names_of_files count unread.0)

pub names_from : (plan : Option Place) (files : JoinFiles) (old new : WireLog) (ended : Result ⊤ CliFault)
    (refused : Option ℕ) → EndsJoinFrom plan files old new ended refused
    → NamesRefusedFile (length files.old) ended refused
names_from plan files old new ended refused (inl command) =
    names_refused plan files old new ended refused command.names
names_from plan files old new ended refused (inr unread) =
    subst (λ (r : Option ℕ). NamesRefusedFile (length files.old) ended r) (sym unread.1)
    (names_unread (length files.old) plan ended old new unread.2)

-- ---- the new file

-- it is still open where what is open stays so
pub still_open : (to : List ℕ) (place : Place) (found left : List ℕ → Place) → found to ≡ opened place
    → StaysOpen found left → left to ≡ opened place
still_open to place found left is stays = stays to (subst IsOpen (sym is) (opened_open place)) ∙ is
