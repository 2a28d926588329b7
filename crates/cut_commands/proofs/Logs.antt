-- The log of a wire that is read, or to which nothing is written.
use Rattle.std.proofs.Common.{◌≡◌, ◌∙◌, ◌++◌, ℕ, Bool, false, List, [], Option, Some, None, take, nat_eq, refl}
use Rattle.std.proofs.Common.{sym, ap, append_assoc, append-nil}
use Rattle.std.specs.Prelude.{if◌then◌else◌}
use Rattle.cut_faults.specs.Failures.{one_more}
use Rattle.cut_wires.specs.Log.{Traffic, Failed, WireLog, gave}
use Rattle.cut_commands.specs.Run.{read_on}

abbrev logged : Option Traffic → Failed → WireLog
logged traffic failed = record { traffic = traffic; failed = failed }

abbrev passed : List ℕ → List ℕ → ℕ → Traffic
passed taken given ends = record { taken = taken; given = given; ends = ends }

-- nothing was read yet
pub read_none : (l : WireLog) → l ≡ read_on [] false l
read_none l = by l.traffic
  where
    by : (o : Option Traffic) → logged o l.failed ≡ read_on [] false (logged o l.failed)
    by None = refl
    by (Some t) = ap (λ (given : List ℕ). logged (Some (passed t.taken given t.ends)) l.failed)
        (sym (append-nil t.given))

-- a read gave some bytes after others
pub read_more : (l : WireLog) (xs got : List ℕ) (n : ℕ) → nat_eq n 0 ≡ false
    → gave (read_on xs false l) got n ≡ read_on (xs ++ take n got) false l
read_more l xs got n some = by l.traffic
  where
    by : (o : Option Traffic) → gave (read_on xs false (logged o l.failed)) got n
        ≡ read_on (xs ++ take n got) false (logged o l.failed)
    by None = refl
    by (Some t) =
        ap (λ (b : Bool). logged (Some (passed t.taken ((t.given ++ xs) ++ take n got)
        (if b then one_more t.ends else t.ends))) l.failed) some
        ∙ ap (λ (given : List ℕ). logged (Some (passed t.taken given t.ends)) l.failed)
        (append_assoc t.given xs (take n got))
