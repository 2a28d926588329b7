-- How receivers are judged by what is found in lanes.
use Rattle.std.proofs.Common.{◌≡◌, ℕ, ◌+◌, ◌<◌, ◌≤◌, Bool, true, false, not, min, List, [], ◌∷◌, ◌++◌}
use Rattle.std.proofs.Common.{Option, Some, None, map, filter, take, get_or, length, refl, sym, ap, ◌∙◌}
use Rattle.std.proofs.Common.{subst, arith}
use Rattle.std.specs.Prelude.{All, IfSome, Result, Ok, Err, OnOk, ◌^◌}
use Rattle.std.proofs.lemmas.Bool.{both_ways}
use Rattle.std.proofs.lemmas.List.{length-map, length-take, map_more, take_all}
use Rattle.std.proofs.lemmas.List.Elements.{All-filter}
use Rattle.std.proofs.lemmas.List.Sums.{length-filter}
use Rattle.cut_lists.proofs.Counts.{list_any-count_by}
use Rattle.cut_lists.proofs.Maps.{count_by-map}
use Rattle.cut_lists.proofs.Ranges.{All-range_with_len, few_filtered, none_passing, passing}
use Rattle.cut_lists.proofs.Ranges.{list_any_passing}
unfoldable use Rattle.cut_detector.specs.Counts.{is_full, is_reported, is_some_stable, is_stable}
use Rattle.cut_arrivals.specs.declared.receivers.lane_verdict.LaneVerdict.{LaneVerdict}
use Rattle.cut_arrivals.specs.declared.receivers.lane_verdict.LaneVerdict.TheVariants.{Doubtful, Other, Silent, Wanted}
use Rattle.cut_arrivals.specs.receivers.LaneVerdicts.{flagged, IsVerdictOn}
use Rattle.cut_trial.specs.declared.alerts.Alerts.{Alerts}
use Rattle.cut_trial.specs.inside.Judging.{proposed_by, proposals_to}
use Rattle.cut_outcome.proofs.Words.{Assignment, EdgeSet, IsTrue, Layout, Rule, Source}
use Rattle.cut_outcome.proofs.Words.{count_by, is_target, list_any, range_with_len}
use Rattle.cut_outcome.proofs.Words.{receivers_of}
use Rattle.cut_arrivals.proofs.CandidateLemmas.{stable_reported}

-- ---- flags

pub flagged_are : (f : ℕ → Bool) (xs : List ℕ) → flagged xs (map f xs) ≡ filter f xs
flagged_are f [] = refl
flagged_are f (x ∷ xs) = grind (arith, flagged_are f xs)

few_of_both : (f q : ℕ → Bool) (xs : List ℕ) → length (filter f (filter q xs)) ≤ length (filter f xs)
few_of_both f q [] = omega arith
few_of_both f q (x ∷ xs) =
    grind (arith, few_of_both f q xs)

-- where as many pass both tests as pass the first, these are the same
all_of_both : (f q : ℕ → Bool) (xs : List ℕ) → length (filter f (filter q xs)) ≡ length (filter f xs)
    → filter f (filter q xs) ≡ filter f xs
all_of_both f q [] many = refl
all_of_both f q (x ∷ xs) many = grind (arith, few_of_both, all_of_both f q xs)

-- where as many flags are set as there are targets, each target is a candidate
pub complete_from : (f q : ℕ → Bool) (n : ℕ) (subjects targets : List ℕ) (flags : List Bool)
    → subjects ≡ filter q (range_with_len 0 n) → targets ≡ filter f (range_with_len 0 n) → flags ≡ map f subjects
    → count_by (λ flag. flag) flags ≡ length targets → flagged subjects flags ≡ targets
complete_from f q n subjects targets flags subjects_are targets_are flags_are same =
    grind (arith, count_by-map, length-filter f subjects, flagged_are f subjects, all_of_both f q (range_with_len 0 n))

-- ---- who is stable in the end

pub some_reported : (r : Layout) (rule : Rule) (E : EdgeSet) → rule.l ≤ rule.h → is_some_stable r rule E ≡ true
    → list_any (λ s. is_reported rule E s) (range_with_len 0 r.nodes) ≡ true
unfolding is_some_stable
some_reported r rule E gap some =
    let found = passing (λ s. is_stable r rule E s) 0 r.nodes some in
    search (arith, list_any_passing, stable_reported)

-- so where some process is stable in the end there is a candidate
pub some_candidate : {X : Type 0} (r : Layout) (rule : Rule) (E : EdgeSet) (subject : X → ℕ) (candidates : List X)
    → rule.l
    ≤ rule.h
    → is_some_stable r rule E ≡ true
    → map subject candidates ≡ filter (λ s. is_reported rule E s) (range_with_len 0 r.nodes) → 0 < length candidates
some_candidate r rule E subject candidates gap some are =
    grind (arith, length-map candidates subject, length-filter, list_any-count_by, some_reported r rule E gap some)

-- ---- receivers

pub receivers_within : (a : Assignment) → All (λ j. j < length a.roles) (receivers_of a)
receivers_within a =
    All-filter (λ p. not (is_target a p)) (λ j. j < length a.roles) (range_with_len 0 (length a.roles))
    (All-range_with_len (λ j. j < length a.roles) 0 (length a.roles) (λ j _ below. omega (arith, below)))

pub receiver_within : (a : Assignment) (rs : List ℕ) (n d : ℕ) → rs ≡ receivers_of a → n < length rs
    → get_or rs n d < length a.roles
receiver_within a rs n d are below = rw are (receivers_within a n d (rw are at below))

-- fewer receivers have been judged than any of the counts could hold
pub few_judged : (a : Assignment) (x : Alerts) (d : Source) (rs : List ℕ) (n : ℕ) → rs ≡ receivers_of a
    → length a.roles ≡ x.study.plan.now.nodes → length (proposals_to x d rs n) < 2 ^ 32
few_judged a x d rs n are nodes =
    grind (arith, few_filtered, length-map, length-take)

pub one_more_judged : (x : Alerts) (d : Source) (rs : List ℕ) (n : ℕ) → n < length rs
    → proposals_to x d rs (n + 1) ≡ proposals_to x d rs n ++ proposed_by x d (get_or rs n 0) ∷ []
one_more_judged x d rs n below = map_more (λ j. proposed_by x d j) rs n 0 below

pub all_judged : (x : Alerts) (d : Source) (rs : List ℕ) (n : ℕ) → length rs ≤ n
    → proposals_to x d rs n ≡ map (λ j. proposed_by x d j) rs
all_judged x d rs n past = ap (λ ys. map (λ j. proposed_by x d j) ys) (take_all n rs past)

pub on_ok : {T E A B : Type 0} (r : Result T E) → (A → B) → OnOk r A → OnOk r B
on_ok (Ok x) f a = f a
on_ok (Err e) f a = tt

-- what was found where nothing is proposed, and where the wanted members are
pub found_silent : (wanted : List ℕ) (proposed : Option (List ℕ)) (f : LaneVerdict) → f ≡ Silent
    → IsVerdictOn wanted proposed f
    → proposed ≡ None
found_silent wanted proposed f is finds = subst (λ g. IsVerdictOn wanted proposed g) is finds

pub found_wanted : (wanted : List ℕ) (proposed : Option (List ℕ)) (f : LaneVerdict) → f ≡ Wanted
    → IsVerdictOn wanted proposed f
    → proposed ≡ Some wanted
found_wanted wanted proposed f is finds = subst (λ g. IsVerdictOn wanted proposed g) is finds

-- what a loop over all of a list has gone through at its end
pub taken_all : {X : Type 0} (xs ys : List X) (n : ℕ) → ys ≡ xs → length ys ≤ n → take n xs ≡ xs
taken_all xs ys n same past = take_all n xs (omega (arith, past, ap (λ zs. length zs) same))

-- places past the last receiver stand for all of them
pub same_judged : (x : Alerts) (d : Source) (rs : List ℕ) (n m : ℕ) → min n (length rs) ≡ min m (length rs)
    → proposals_to x d rs n ≡ proposals_to x d rs m
same_judged x d rs n m same = grind (arith, all_judged)

-- ---- what the receivers of a trial hear

pub none_stable : (r : Layout) (rule : Rule) (E : EdgeSet) → is_some_stable r rule E ≡ false → (s : ℕ) → s < r.nodes
    → IsTrue (is_stable r rule E s) → ⊥
unfolding is_some_stable
none_stable r rule E none s process stable =
    let not_stable : is_stable r rule E s ≡ false =
    none_passing (λ q. is_stable r rule E q) 0 r.nodes s none (omega arith) (omega (arith, process)) in
    both_ways (is_stable r rule E s) not_stable stable

pub subjects_within : (q : ℕ → Bool) (n m : ℕ) (subjects : List ℕ) → subjects ≡ filter q (range_with_len 0 n) → n ≡ m
    → All (λ s. s < m) subjects
subjects_within q n m subjects are same =
    subst (λ (xs : List ℕ). All (λ s. s < m) xs) (sym are)
    (All-filter q (λ s. s < m) (range_with_len 0 n)
    (All-range_with_len (λ s. s < m) 0 n (λ s _ below. omega (arith, below, same))))

-- ---- other members

pub found_other : (wanted : List ℕ) (proposed : Option (List ℕ)) (f : LaneVerdict) (listed : List ℕ) → f ≡ Other
    → IsVerdictOn wanted proposed f → IfSome proposed (λ members. listed ≡ members) → Some listed ≡ proposed
found_other wanted proposed f listed is finds same =
    grind arith

pub not_doubtful : (b : Bool) (f : LaneVerdict) → (f ≡ Doubtful → ⊥) → (IsTrue b → f ≡ Doubtful) → b ≡ false
not_doubtful b f other doubtful = grind arith

pub wanted_is_certain : (f : LaneVerdict) → f ≡ Wanted → f ≡ Doubtful → ⊥
wanted_is_certain f is doubtful = let both : Wanted ≡ Doubtful = sym is ∙ doubtful in cc

pub other_is_certain : (f : LaneVerdict) → f ≡ Other → f ≡ Doubtful → ⊥
other_is_certain f is doubtful = let both : Other ≡ Doubtful = sym is ∙ doubtful in cc
