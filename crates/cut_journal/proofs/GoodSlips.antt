-- The slips that a run finds after a crash are good ones to begin a ledger with.
use Rattle.std.proofs.Common.{◌≡◌, ℕ, Bool, true, List, [], ◌∷◌, ◌++◌, subst, refl}
use Rattle.std.specs.List.{AllByRecursion}
use Rattle.cut_plan.specs.Values.{Values}
use Rattle.cut_plan.specs.Plan.{IsPlan}
use Rattle.cut_ledger.specs.declared.event.Event.{Event}
use Rattle.cut_ledger.specs.declared.event.Event.TheVariants.{CrashReopen}
use Rattle.cut_ledger.specs.Laws.{TrueSlipsAreGood}
use Rattle.cut_ledger.specs.Machine.{start, slips_found}
use Rattle.cut_ledger.specs.World.{World, begun, run, step, HasTrueResult, IsRight}
use Rattle.cut_journal.specs.Laws.{ResumedSlipsAreGood}

run_more : (w : World) (events : List Event) (last : Event) → run w (events ++ last ∷ []) ≡ step (run w events) last
run_more w [] last = refl
run_more w (event ∷ events) last = run_more (step w event) events last

all_more : (events : List Event) (keep : Bool) (size : ℕ) → AllByRecursion HasTrueResult events
    → AllByRecursion HasTrueResult (events ++ CrashReopen keep size ∷ [])
all_more [] keep size all = (tt, tt)
all_more (event ∷ events) keep size all = (all.0, all_more events keep size all.1)

pub resumed_good : TrueSlipsAreGood
    → ((journal : Bool) (v : Values) (size : ℕ) (events : List Event) → IsPlan v
    → AllByRecursion HasTrueResult events → IsRight v (run (begun (start v size journal)) events))
    → ResumedSlipsAreGood
resumed_good good every v size events keep plan results =
    let w : World = run (begun (start v size true)) events in
    let crash : Event = CrashReopen keep 1 in
    let right : IsRight v (step w crash) = subst (λ (x : World). IsRight v x)
    (run_more (begun (start v size true)) events crash)
    (every true v size (events ++ crash ∷ []) plan (all_more events keep 1 results)) in
    good v (slips_found w.state keep) (record { each = right.kept; apart = right.apart })
