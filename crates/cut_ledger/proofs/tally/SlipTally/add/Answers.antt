-- A good slip is put in and counted; the first that is not good is refused by the number after that.
use Rattle.std.proofs.Common.{◌≡◌, ◌∙◌, ◌+◌, ◌++◌, ◌∷◌, [], ℕ, Bool, true, false, Option, Some, None, is_some}
use Rattle.std.proofs.Common.{refl, sym, subst, arith}
use Rattle.cut_sets.specs.ranges.Held as held
use Rattle.cut_ledger.specs.Tally.{Tally, HasAdded}
use Rattle.cut_ledger.specs.inside.HeldTrials.{HoldsExactly}
use Rattle.cut_ledger.specs.inside.TallyInside.{tally_of}
use Rattle.cut_ledger.proofs.Words.{IsFirstBad, IsGood, IsTrue, Slip, ◌↔◌}
use Rattle.cut_ledger.proofs.TallyLemmas.{IsPut, counted_few, is_put, judges_on, over_none, put_all, put_counted}
use Rattle.cut_ledger.proofs.TallyLemmas.{put_some, refuses}
use Rattle.cut_ledger.proofs.tally.SlipTally.add.Goals as goal

none : (r : Option ℕ) (b : Bool) → b ≡ is_some r → b ≡ false → r ≡ None
none None b reported isnt = refl
none (Some n) b reported isnt = absurd (cc)

not_good : (P : Type 0) → (IsTrue false ↔ P) → P → ⊥
not_good P is p = let same : false ≡ true = is.1 p in absurd (cc)

pub returns-then-not-is_good-clause-added : goal.returns-then-not-is_good-clause-added
returns-then-not-is_good-clause-added c = λ before added.
    (let a : Tally = tally_of c.self.inside in
    let s : Slip = c.args.slip.now in
    let over = over_none c.self.inside.refused a before
    (none c.self.inside.refused c.is_some.result c.is_some.ensures c.if-is_some.false)
    (subst (λ (b : Tally). HasAdded b before) (sym c.self.view_is) added) in
    subst (λ (n : ℕ). IsFirstBad c.self.inside.plan (before ++ s ∷ []) (n + 1)) (sym c.from.ensures)
    (refuses a before s over (not_good (IsGood c.self.inside.plan before s)
    (c.if-not-is_good.ensures.good before over.exactly))))

pub overflow_add-self-2 : goal.overflow_add-self-2
overflow_add-self-2 c =
    let new : held.Held = c.insert.new.self in
    let s : Slip = c.args.slip.now in
    let put : IsPut c.self.inside.plan c.self.inside.trials new s.piece s.totals =
    is_put c.self.inside.plan c.self.inside.trials new s.piece s.totals c.span_of.result c.self.invariant.plan
    c.self.invariant.all (c.if-not-is_good.ensures.fits refl) c.span_of.ensures c.in_ok-insert.ensures.held in
    omega (
      arith,
      c.self.invariant.held,
      put_counted c.self.inside.plan c.self.inside.trials new s.piece s.totals put,
      counted_few c.self.inside.plan (held.has new) c.self.invariant.plan,
    )

pub overflow_add-self-3 : goal.overflow_add-self-3
overflow_add-self-3 c =
    let new : held.Held = c.insert.new.self in
    let s : Slip = c.args.slip.now in
    let put : IsPut c.self.inside.plan c.self.inside.trials new s.piece s.totals =
    is_put c.self.inside.plan c.self.inside.trials new s.piece s.totals c.span_of.result c.self.invariant.plan
    c.self.invariant.all (c.if-not-is_good.ensures.fits refl) c.span_of.ensures c.in_ok-insert.ensures.held in
    omega (
      arith,
      c.self.invariant.held,
      c.self.invariant.few,
      put_counted c.self.inside.plan c.self.inside.trials new s.piece s.totals put,
      put_some c.self.inside.plan c.self.inside.trials new s.piece s.totals put,
      counted_few c.self.inside.plan (held.has new) c.self.invariant.plan,
    )

pub invariant_of-self-2 : goal.invariant_of-self-2
invariant_of-self-2 c =
    let new : held.Held = c.insert.new.self in
    let s : Slip = c.args.slip.now in
    let put : IsPut c.self.inside.plan c.self.inside.trials new s.piece s.totals =
    is_put c.self.inside.plan c.self.inside.trials new s.piece s.totals c.span_of.result c.self.invariant.plan
    c.self.invariant.all (c.if-not-is_good.ensures.fits refl) c.span_of.ensures c.in_ok-insert.ensures.held in
    record {
      plan = c.self.invariant.plan;
      section_len = c.in_ok-insert.ensures.section_len ∙ c.self.invariant.section_len;
      all = put_all c.self.inside.plan c.self.inside.trials new s.piece s.totals put;
      held = omega (
        arith,
        c.self.invariant.held,
        put_counted c.self.inside.plan c.self.inside.trials new s.piece s.totals put,
      );
      few = omega (
        arith,
        c.self.invariant.few,
        put_some c.self.inside.plan c.self.inside.trials new s.piece s.totals put,
      );
    }

pub returns-clause-added : goal.returns-clause-added
returns-clause-added c = λ before added.
    (let new : held.Held = c.insert.new.self in
    let s : Slip = c.args.slip.now in
    let put : IsPut c.self.inside.plan c.self.inside.trials new s.piece s.totals =
    is_put c.self.inside.plan c.self.inside.trials new s.piece s.totals c.span_of.result c.self.invariant.plan
    c.self.invariant.all (c.if-not-is_good.ensures.fits refl) c.span_of.ensures c.in_ok-insert.ensures.held in
    judges_on c.self.inside.refused c.self.inside.plan c.self.inside.trials new c.self.inside.slips before s
    (none c.self.inside.refused c.is_some.result c.is_some.ensures c.if-is_some.false) put
    (λ (exactly : HoldsExactly c.self.inside.trials before). (c.if-not-is_good.ensures.good before exactly).0 refl)
    (subst (λ (b : Tally). HasAdded b before) (sym c.self.view_is) added))
