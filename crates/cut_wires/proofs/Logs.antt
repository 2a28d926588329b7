-- Logs of wires, call by call.
use Rattle.std.proofs.Common.{◌≡◌, ◌∙◌, ◌++◌, List, [], ℕ, Option, Some, None, refl, ap, append_assoc}
use Rattle.std.proofs.Common.{append-nil}
use Rattle.cut_wires.specs.Log.{Traffic, Failed, WireLog, passing, with_taken, wrote}

-- two changes of what passed are one
pub passing_twice : (f g : Traffic → Traffic) (l : WireLog) → passing f (passing g l) ≡ passing (λ t. f (g t)) l
passing_twice f g l = both l.traffic l.failed
  where
    both : (o : Option Traffic) (w : Failed) → passing f (passing g (record { traffic = o; failed = w }))
        ≡ passing (λ t. f (g t)) (record { traffic = o; failed = w })
    both None w = refl
    both (Some t) w = refl

-- changes that agree on what passed
pub passing_same : (f g : Traffic → Traffic) (l : WireLog) → ((t : Traffic) → f t ≡ g t) → passing f l ≡ passing g l
passing_same f g l same = both l.traffic l.failed
  where
    both : (o : Option Traffic) (w : Failed) → passing f (record { traffic = o; failed = w })
        ≡ passing g (record { traffic = o; failed = w })
    both None w = refl
    both (Some t) w = ap (λ (u : Traffic). (let l : WireLog = record { traffic = Some u; failed = w } in l)) (same t)

pub passing_none : (f : Traffic → Traffic) (l : WireLog) → ((t : Traffic) → f t ≡ t) → passing f l ≡ l
passing_none f l same = both l.traffic l.failed
  where
    both : (o : Option Traffic) (w : Failed) → passing f (record { traffic = o; failed = w })
        ≡ record { traffic = o; failed = w }
    both None w = refl
    both (Some t) w = ap (λ (u : Traffic). (let l : WireLog = record { traffic = Some u; failed = w } in l)) (same t)

-- ---- writes

taken_twice : (xs ys : List ℕ) (t : Traffic) → with_taken (with_taken t xs) ys ≡ with_taken t (xs ++ ys)
taken_twice xs ys t =
    ap (λ (taken : List ℕ). (let u : Traffic = record { taken = taken; given = t.given; ends = t.ends } in u))
    (append_assoc t.taken xs ys)

pub wrote_twice : (l : WireLog) (xs ys : List ℕ) → wrote (wrote l xs) ys ≡ wrote l (xs ++ ys)
wrote_twice l xs ys =
    passing_twice (λ t. with_taken t ys) (λ t. with_taken t xs) l
    ∙ passing_same (λ t. with_taken (with_taken t xs) ys) (λ t. with_taken t (xs ++ ys)) l (taken_twice xs ys)

pub wrote_none : (l : WireLog) → wrote l [] ≡ l
wrote_none l = passing_none (λ t. with_taken t []) l (λ t.
    ap (λ (taken : List ℕ). (let u : Traffic = record { taken = taken; given = t.given; ends = t.ends } in u))
    (append-nil t.taken))

-- a write more
pub wrote_more : (old mid new : WireLog) (xs ys : List ℕ) → mid ≡ wrote old xs → new ≡ wrote mid ys
    → new ≡ wrote old (xs ++ ys)
wrote_more old mid new xs ys first second =
    second ∙ ap (λ (l : WireLog). wrote l ys) first ∙ wrote_twice old xs ys
