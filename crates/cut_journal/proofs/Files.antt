-- The bytes of a study's file, as the writes of a journal leave them.
use Rattle.std.proofs.Common.{◌≡◌, ◌∙◌, ◌+◌, ◌++◌, ℕ, List, [], ◌∷◌, Result, Ok, Some, None, length, take, refl, ap}
use Rattle.std.proofs.Common.{zero-add, subst, arith, append-nil, append_assoc, length-append}
use Rattle.std.specs.Bool.{⊤}
use Rattle.std.specs.Io.{StartsWith}
use Rattle.std.specs.List.{flat_map}
use Rattle.std.proofs.lemmas.Grind.{flat_map-append}
use Rattle.std.proofs.lemmas.List.{take_at, drop_at}
use Rattle.cut_plan.specs.Failing.{version_of}
use Rattle.cut_plan.specs.Values.{Values}
use Rattle.cut_disks.specs.State.{DiskState, overwritten}
use Rattle.cut_disks.specs.Laws.{WritesStayInSpan}
use Rattle.cut_ledger.specs.declared.slip.Slip.{Slip}
use Rattle.cut_journal.specs.File.{HoldsAllTotals, open_gate, closed_gate, prefix_of, file_of, body_of}
use Rattle.cut_journal.specs.Journal.{ExtendsFile, IsFileOf, ReadsAs, kept_slips}
use Rattle.cut_journal.specs.inside.Steps.{BeginsAs, HasNumbers, KeepsSlip, WritesThrough}
use Rattle.cut_journal.proofs.Appends.{put_of, long_body, first_step, second_step}
use Rattle.cut_journal.proofs.Moments.{and_then, on_ok}
use Rattle.cut_journal.proofs.Prefixes.{long_prefix}
use Rattle.cut_journal.proofs.Gates.{gate_first, gate_next}
use Rattle.cut_journal.proofs.Makings.{whole_prefix}
use Rattle.cut_journal.specs.inside.Places.{gate_place}

begins : (bytes prefix rest : List ℕ) → bytes ≡ prefix ++ rest → StartsWith bytes prefix
begins bytes prefix rest is = ap (take (length prefix)) is ∙ take_at prefix rest (length prefix) refl

-- ---- a new study

pub new_file : (v : Values) (bytes : List ℕ) → BeginsAs v bytes
    → StartsWith (overwritten bytes 0 (open_gate ∷ [])) (file_of v [])
new_file v bytes begun = begins (overwritten bytes 0 (open_gate ∷ [])) (file_of v []) begun.1.0
    (rw begun.1.1.0 (grind (arith, whole_prefix v begun.1.0, append-nil, append_assoc)))

-- ---- one slip more

-- a slip with its gate
abbrev gated : Values → Slip → List ℕ
gated v s = open_gate ∷ body_of v s

-- the slips in a file
abbrev gated_slips : Values → List Slip → List ℕ
gated_slips v slips = flat_map (gated v) slips

long_slips : (v : Values) (k : ℕ) (slips : List Slip) → gate_place v k + length (gated_slips v slips)
    ≡ gate_place v (k + length slips)
long_slips v k [] =
    grind arith
long_slips v k (s ∷ slips) =
    grind (arith, length-append, long_body, gate_next, long_slips v (k + 1) slips)

long_file : (v : Values) (slips : List Slip) → length (prefix_of v ++ gated_slips v slips) ≡ gate_place v (length slips)
long_file v slips =
    grind (arith, length-append, long_prefix, gate_first, long_slips v 0 slips, zero-add)

regrouped : (prefix slips body rest : List ℕ) → ((prefix ++ slips) ++ open_gate ∷ [])
    ++ ((body ++ closed_gate ∷ []) ++ rest) ≡ ((prefix ++ (slips ++ (open_gate ∷ body))) ++ closed_gate ∷ []) ++ rest
regrouped prefix slips body rest =
    grind (arith, append_assoc)

-- the slips with one more after them
more_slips : (v : Values) (slips : List Slip) (s : Slip) → gated_slips v (slips ++ s ∷ []) ≡ gated_slips v slips
    ++ gated v s
more_slips v slips s = flat_map-append (gated v) slips (s ∷ [])
    ∙ ap (λ (l : List ℕ). gated_slips v slips ++ l) (append-nil (gated v s))

-- the two writes of an append
extended : (v : Values) (n : ℕ) (slip : Slip) (old mid new : List ℕ) → mid
    ≡ overwritten old (gate_place v n + 1) (put_of v slip) → new ≡ overwritten mid (gate_place v n) (open_gate ∷ [])
    → ExtendsFile v n slip old new
extended v n slip old mid new wrote opened =
    grind (arith, long_file, length-append, append_assoc, drop_at, begins, regrouped, more_slips)

-- ---- a slip is kept

pub keeps : {E : Type 0} (result : Result ⊤ E) (v : Values) (n place : ℕ) (slip : Slip) (put : List ℕ)
    (old mid new : DiskState) → place ≡ gate_place v n → WritesStayInSpan → IsFileOf v n None old → HasNumbers slip
    → HoldsAllTotals (version_of v.failing) slip.totals → put ≡ put_of v slip
    → WritesThrough {E = E} (Ok tt) (place + 1) put old mid → WritesThrough result place (open_gate ∷ []) mid new
    → KeepsSlip result v n slip old new
keeps {E} result v n place slip put old mid new here stay sound fits reports made before is =
    let wrote : WritesThrough {E = E} (Ok tt) (gate_place v n + 1) (put_of v slip) old mid =
    rw (here, made) at before in
    let first = first_step {E = E} (Ok tt) v n slip (put_of v slip) old mid stay sound wrote in
    let second = second_step result v n slip old mid new stay sound fits reports (first.bytes refl) (first.durable refl)
    (subst (λ (p : ℕ). WritesThrough result p (open_gate ∷ []) mid new) here is) in record {
      moments = and_then (ReadsAs v (kept_slips v n old) (Some slip)) old mid new first.moments second.0.moments;
      left = second.0.left;
      kept = on_ok result _ second.1;
      file = on_ok result _
          (λ ok. extended v n slip old.bytes mid.bytes new.bytes (first.bytes refl) (second.0.bytes ok));
      durable = on_ok result _ second.0.durable;
    }
