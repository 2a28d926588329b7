-- What the two writes of an append leave, whatever crash may come.
use Rattle.std.proofs.Common.{◌≡◌, ◌∙◌, ◌≤◌, ◌<◌, ◌+◌, ◌-◌, ◌++◌, inl, inr, ℕ, true, false, List, [], ◌∷◌, Result}
use Rattle.std.proofs.Common.{Ok, Err, Option, Some, None, unwrap_or, length, take, drop, get_or, refl, sym, ap, subst}
use Rattle.std.proofs.Common.{arith, append_assoc, length-append, length-drop}
use Rattle.std.specs.Bool.{⊤}
use Rattle.std.specs.Result.{is_ok}
use Rattle.std.proofs.lemmas.Bool.{cases_Bool}
use Rattle.std.proofs.lemmas.Bool.Decides.{nat_tests, Decides-eqb}
use Rattle.std.proofs.lemmas.List.{take_at, drop_at, take_all, length-take, get_or-append_right, get_or-drop}
use Rattle.sha2.proofs.Facts256.{length-sha256}
use Rattle.cut_plan.specs.Failing.{version_of}
use Rattle.cut_plan.specs.Values.{Values}
use Rattle.cut_disks.specs.State.{DiskState, IsTorn, settled, overwritten}
use Rattle.cut_disks.specs.Laws.{WritesStayInSpan}
use Rattle.cut_disks.specs.Log.{DiskLog, Goes, Knows, on}
use Rattle.cut_faults.specs.Failures.{one_more}
use Rattle.cut_ledger.specs.declared.slip.Slip.{Slip}
use Rattle.cut_journal.specs.declared.fault.JournalFault.{JournalFault}
use Rattle.cut_journal.specs.declared.fault.JournalFault.TheVariants.{Disk}
use Rattle.cut_journal.specs.File.{HoldsAllTotals, open_gate, closed_gate, numbers_length, body_of}
use Rattle.cut_journal.specs.Reading.{reading}
use Rattle.cut_journal.specs.Journal.{Appends, JournalValue, ReadsAs, IsFileOf, fault_counts, kept_slips, slips_of}
use Rattle.cut_journal.specs.inside.Steps.{HasNumbers, WritesThrough, KeepsSlip, Leave}
use Rattle.cut_journal.proofs.Counts.{alike_at, alike_prefix}
use Rattle.cut_journal.proofs.Gates.{gate_next}
use Rattle.cut_journal.proofs.Moments.{Through, through_is, settled_images}
use Rattle.cut_journal.proofs.Readings.{Holds, gate_there, reads_holds, closed_read, opened_read}
use Rattle.cut_journal.proofs.SlipBytes.{long_bytes, slip_back, slip_whole}
use Rattle.cut_journal.specs.inside.Places.{body_at, first_slips, gate_place, is_open}

-- ---- torn bytes, place by place

pub torn_prefix : (at stop n : ℕ) (bytes torn : List ℕ) → IsTorn at stop bytes torn → n ≤ at → n ≤ length bytes
    → take n torn ≡ take n bytes
torn_prefix at stop n bytes torn is low long =
    grind (arith, alike_at)

pub torn_rest : (at stop : ℕ) (bytes torn : List ℕ) → IsTorn at stop bytes torn → stop ≤ length bytes → drop stop torn
    ≡ drop stop bytes
torn_rest at stop bytes torn is within =
    let n : ℕ = length bytes - stop in
    let alike : take n (drop stop torn) ≡ take n (drop stop bytes) =
    grind (arith, nat_tests, alike_at n (drop stop torn) (drop stop bytes), length-drop, get_or-drop) in
    grind (arith, alike, take_all n (drop stop torn), take_all n (drop stop bytes), length-drop)

-- ---- what is overwritten

pub over_prefix : (bytes put : List ℕ) (at : ℕ) → at ≤ length bytes → take at (overwritten bytes at put) ≡ take at bytes
over_prefix bytes put at low =
    grind (arith, append_assoc, take_at, length-take)

pub over_rest : (bytes put : List ℕ) (at : ℕ) → at ≤ length bytes → drop at (overwritten bytes at put) ≡ put
    ++ drop (at + length put) bytes
over_rest bytes put at low =
    grind (arith, append_assoc, drop_at, length-take)

over_at : (bytes : List ℕ) (b at : ℕ) → at ≤ length bytes → get_or (overwritten bytes at (b ∷ [])) at 0 ≡ b
over_at bytes b at low =
    grind (arith, append_assoc, get_or-append_right, length-take)

-- ---- the journal that is ready for a slip

pub sound_holds : (v : Values) (n : ℕ) (d : DiskState) → IsFileOf v n None d → Holds v d.bytes n
    × (kept_slips v n d ≡ first_slips v d.bytes n) × (d.stable ≡ settled d.bytes)
sound_holds v n d sound = grind (arith, reads_holds v d.bytes (kept_slips v n d))

-- there is room for both writes
pub gate_before : (v : Values) (n place : ℕ) (d : DiskState) → place ≡ gate_place v n → IsFileOf v n None d → place + 1
    ≤ length d.bytes
gate_before v n place d here sound =
    grind (arith, sound_holds v n d sound, gate_there v d.bytes n)

-- ---- the first write

pub long_body : (v : Values) (s : Slip) → length (body_of v s) ≡ numbers_length (version_of v.failing) + 32
unfolding body_of
long_body v s =
    grind (arith, length-append, long_bytes, length-sha256)

-- what is written after a slip's gate
abbrev pub put_of : Values → Slip → List ℕ
put_of v s = body_of v s ++ closed_gate ∷ []

first_torn : (v : Values) (n stop : ℕ) (bytes torn : List ℕ) → Holds v bytes n
    → IsTorn (gate_place v n + 1) stop bytes torn → reading v torn ≡ Ok (first_slips v bytes n)
first_torn v n stop bytes torn holds is =
    grind (arith, gate_there, nat_tests, closed_read, torn_prefix)

pub first_step : {E : Type 0} (result : Result ⊤ E) (v : Values) (n : ℕ) (slip : Slip) (put : List ℕ)
    (old new : DiskState) → WritesStayInSpan → IsFileOf v n None old
    → WritesThrough result (gate_place v n + 1) put old new
    → Through (ReadsAs v (kept_slips v n old) (Some slip)) result (gate_place v n + 1) put old new
first_step result v n slip put old new stay sound is =
    let ready = sound_holds v n old sound in
    through_is (ReadsAs v (kept_slips v n old) (Some slip)) result (gate_place v n + 1) put old new stay ready.2
    (elim sound.bytes [ inl reads ↦ inl reads | inr other ↦ absurd (cc (other.1.0)) ])
    (λ image torn. inl (first_torn v n (gate_place v n + 1 + length put) old.bytes image ready.0 torn
    ∙ ap (λ (l : List Slip). Ok l) (sym ready.1))) is

-- ---- the second write

-- what stands after the gate that a slip was written after
written_after : (v : Values) (n : ℕ) (bytes tail : List ℕ) (slip : Slip) → drop (gate_place v n + 1) bytes
    ≡ put_of v slip ++ tail → (gate_place v (n + 1) < length bytes) × (body_at v bytes n ≡ body_of v slip)
    × (is_open v bytes (n + 1) ≡ false)
written_after v n bytes tail slip is =
    let b : ℕ = numbers_length (version_of v.failing) + 32 in
    let ahead : gate_place v (n + 1) ≡ gate_place v n + 1 + b = gate_next v n ∙ omega arith in
    let all : drop (gate_place v n + 1) bytes ≡ body_of v slip ++ (closed_gate ∷ tail) =
    is ∙ append_assoc (body_of v slip) (closed_gate ∷ []) tail in
    let size = ap (λ (l : List ℕ). length l) all in (
      omega (
        arith,
        size,
        length-append (body_of v slip) (closed_gate ∷ tail),
        long_body v slip,
        ahead,
        length-drop (gate_place v n + 1) bytes,
      ),
      grind (arith, all, ahead, take_at, long_body),
      grind (arith, all, ahead, get_or-drop, get_or-append_right, long_body),
    )

-- the gate is the only place that may differ
second_torn : (v : Values) (n : ℕ) (old : DiskState) (torn : List ℕ) (slip : Slip) → WritesStayInSpan
    → IsFileOf v n None old → HasNumbers slip → HoldsAllTotals (version_of v.failing) slip.totals
    → IsTorn (gate_place v n) (gate_place v n + 1) (overwritten old.bytes (gate_place v n + 1) (put_of v slip)) torn
    → (is_open v torn n ≡ true → reading v torn ≡ Ok (kept_slips v n old ++ slip ∷ []))
    × (is_open v torn n ≡ false → reading v torn ≡ Ok (kept_slips v n old))
second_torn v n old torn slip stay sound fits reports is =
    let g : ℕ = gate_place v n in
    let put : List ℕ = put_of v slip in
    let mid : List ℕ = overwritten old.bytes (g + 1) put in
    let ready = sound_holds v n old sound in
    let whole = ready.0.whole in
    let there = gate_there v old.bytes n ready.0.prefix whole in
    let rest : drop (g + 1) mid ≡ put ++ drop (g + 1 + length put) old.bytes = over_rest old.bytes put (g + 1)
    (omega (arith, there)) in
    let low : g + 1 ≤ length mid = omega (arith, there, (stay old.bytes put (g + 1)).no_shorter) in
    let prefix : take g torn ≡ take g old.bytes =
    torn_prefix g (g + 1) g mid torn is (omega arith) (omega (arith, low))
    ∙ alike_prefix (g + 1) g mid old.bytes (over_prefix old.bytes put (g + 1) (omega (arith, there))) (omega arith) in
    let after = written_after v n torn (drop (g + 1 + length put) old.bytes) slip
    (torn_rest g (g + 1) mid torn is low ∙ rest) in
    grind (
      arith,
      ready,
      after,
      opened_read v n old.bytes torn slip ready.0.prefix whole prefix after.0,
      closed_read v n old.bytes torn ready.0.prefix whole prefix,
      slip_whole v slip fits,
      slip_back v slip fits reports,
      gate_next v n,
    )

-- the second write, and its sync
pub second_step : {E : Type 0} (result : Result ⊤ E) (v : Values) (n : ℕ) (slip : Slip) (old mid new : DiskState)
    → WritesStayInSpan → IsFileOf v n None old → HasNumbers slip → HoldsAllTotals (version_of v.failing) slip.totals
    → mid.bytes ≡ overwritten old.bytes (gate_place v n + 1) (put_of v slip) → mid.stable ≡ settled mid.bytes
    → WritesThrough result (gate_place v n) (open_gate ∷ []) mid new
    → Through (ReadsAs v (kept_slips v n old) (Some slip)) result (gate_place v n) (open_gate ∷ []) mid new
    × (is_ok result ≡ true → reading v new.bytes ≡ Ok (kept_slips v n old ++ slip ∷ []))
second_step result v n slip old mid new stay sound fits reports wrote durable is =
    let g : ℕ = gate_place v n in
    let P : List ℕ → Type 0 = ReadsAs v (kept_slips v n old) (Some slip) in
    let torn = λ (image : List ℕ) (t : IsTorn g (g + 1) mid.bytes image).
    second_torn v n old image slip stay sound fits reports (subst (λ (b : List ℕ). IsTorn g (g + 1) b image) wrote t) in
    let reads : (image : List ℕ) → IsTorn g (g + 1) mid.bytes image → P image =
    λ image t. (let either = torn image t in grind (arith, cases_Bool (is_open v image n))) in
    let before : P mid.bytes = reads mid.bytes (record
    { no_shorter = omega arith; no_longer = omega arith; same = λ i low outside. refl }) in
    let step : Through P result g (open_gate ∷ []) mid new = through_is P result g (open_gate ∷ []) mid new stay durable
    before reads is in (
      step,
      λ ok. (let bytes : new.bytes ≡ overwritten mid.bytes g (open_gate ∷ []) = step.bytes ok in
          let low : g ≤ length mid.bytes = rw wrote (omega (
            arith,
            gate_before v n g old refl sound,
            (stay old.bytes (put_of v slip) (g + 1)).no_shorter,
          )) in
          let first : get_or new.bytes g 0 ≡ open_gate = rw bytes (over_at mid.bytes open_gate g low) in
          let t : IsTorn g (g + 1) mid.bytes new.bytes = rw bytes (stay mid.bytes (open_gate ∷ []) g) in
          (torn new.bytes t).0 ((Decides-eqb (get_or new.bytes g 0) open_gate).1 first)),
    )

-- ---- at the place of the gate

pub first_at : {E : Type 0} (result : Result ⊤ E) (v : Values) (n place : ℕ) (slip : Slip) (put : List ℕ)
    (old new : DiskState) → place ≡ gate_place v n → WritesStayInSpan → IsFileOf v n None old
    → WritesThrough result (place + 1) put old new
    → Through (ReadsAs v (kept_slips v n old) (Some slip)) result (place + 1) put old new
first_at result v n place slip put old new here stay sound is =
    grind (arith, first_step result v n slip put old new stay sound)

-- ---- a journal that was opened

pub kept_are : (v : Values) (n : ℕ) (slips : List Slip) (d : DiskState) → reading v d.bytes ≡ Ok slips → n
    ≡ length slips → kept_slips v n d ≡ slips
kept_are v n slips d reads long = ap (λ (r : Result (List Slip) JournalFault). take n (slips_of r)) reads
    ∙ take_all n slips (omega (arith, long))

pub opened_sound : (v : Values) (n : ℕ) (slips : List Slip) (d : DiskState) → reading v d.bytes ≡ Ok slips → n
    ≡ length slips → d.stable ≡ settled d.bytes → IsFileOf v n None d
opened_sound v n slips d reads long durable =
    grind (arith, kept_are v n slips d reads long, settled_images (ReadsAs v slips None) d.stable d.bytes durable)

-- a doubtful slip, or another one in its place
pub reads_more : (v : Values) (slips : List Slip) (doubtful : Option Slip) (slip : Slip) (bytes : List ℕ)
    → ReadsAs v slips doubtful bytes → ReadsAs v slips (Some (unwrap_or doubtful slip)) bytes
reads_more v slips doubtful slip bytes reads =
    grind arith

-- an append that is refused at once
pub append_stays : {D : Type 0} (log : D → DiskLog) (fault : JournalFault) (slip : Slip) (j : JournalValue D)
    → ((n : ℕ) → fault_counts fault n ≡ n) → Knows (log j.disk) (IsFileOf j.plan j.count j.doubtful)
    → Appends log (Err fault) slip j j
append_stays log fault slip j uncounted sound =
    grind (arith, uncounted (log j.disk).failed)

-- ---- the journal after an append

pub added : (v : Values) (n : ℕ) (slip : Slip) (old new : DiskState) → IsFileOf v n None old → reading v new.bytes
    ≡ Ok (kept_slips v n old ++ slip ∷ []) → new.stable ≡ settled new.bytes
    → IsFileOf v (n + 1) None new × (kept_slips v (n + 1) new ≡ kept_slips v n old ++ slip ∷ [])
added v n slip old new sound reads durable =
    let kept : List Slip = kept_slips v n old ++ slip ∷ [] in
    let long : n + 1 ≡ length kept = omega (arith, sound.counted, length-append (kept_slips v n old) (slip ∷ [])) in
    (opened_sound v (n + 1) kept new reads long durable, kept_are v (n + 1) kept new reads long)

-- the slips that count are the same, whether the doubtful one is there or not
pub kept_same : (v : Values) (n : ℕ) (slip : Slip) (old new : DiskState) → length (kept_slips v n old) ≡ n
    → ReadsAs v (kept_slips v n old) (Some slip) new.bytes → kept_slips v n new ≡ kept_slips v n old
kept_same v n slip old new long reads =
    grind (arith, kept_are v n (kept_slips v n old) new, take_at)

pub failed_sound : (v : Values) (n : ℕ) (slip : Slip) (old new : DiskState) → length (kept_slips v n old) ≡ n
    → Leave (ReadsAs v (kept_slips v n old) (Some slip)) new → IsFileOf v n (Some slip) new
failed_sound v n slip old new long left =
    grind (arith, kept_same v n slip old new long left.0)

-- the slip was kept
pub slip_kept : {D E : Type 0} (log : D → DiskLog) (number : ℕ) (slip : Slip) (old new : D) (v : Values) (n : ℕ)
    (doubtful : Option Slip) → doubtful ≡ None → Knows (log old) (IsFileOf v n doubtful)
    → Goes (λ n. n) (KeepsSlip {E = E} (Ok tt) v n slip) (log old) (log new)
    → Appends log (Ok number) slip (record { disk = old; plan = v; count = n; doubtful = doubtful })
    (record { disk = new; plan = v; count = n + 1; doubtful = doubtful })
    × Knows (log new) (IsFileOf v (n + 1) doubtful)
slip_kept log number slip old new v n doubtful none sound goes =
    grind (
      arith,
      added v n slip (on (log old)) (on (log new)),
      settled_images (λ (image : List ℕ). reading v image
          ≡ Ok (kept_slips v n (on (log old)) ++ slip ∷ [])) (on (log new)).stable (on (log new)).bytes,
    )

-- it is not known whether it was
pub slip_doubted : {D E : Type 0} (log : D → DiskLog) (fault : E) (slip : Slip) (old new : D) (v : Values) (n : ℕ)
    (doubtful : Option Slip) → doubtful ≡ None → Knows (log old) (IsFileOf v n doubtful)
    → Goes one_more (KeepsSlip {E = E} (Err fault) v n slip) (log old) (log new)
    → Appends log (Err Disk) slip (record { disk = old; plan = v; count = n; doubtful = doubtful })
    (record { disk = new; plan = v; count = n; doubtful = Some slip }) × Knows (log new) (IsFileOf v n (Some slip))
slip_doubted log fault slip old new v n doubtful none sound goes =
    grind (arith, kept_same v n slip (on (log old)) (on (log new)), failed_sound v n slip (on (log old)) (on (log new)))
