use Rattle.std.proofs.Common.{rules, ◌≡◌, ◌∙◌, List, [], Err, None, refl, ap, arith, length, vec_len}
use Rattle.std.specs.Bool.{⊤}
use Rattle.std.proofs.lemmas.Result.{err_from_is_err_and}
use Rattle.cut_plan.specs.Failing.{version_of}
use Rattle.cut_journal.specs.declared.store_fault.StoreFault.TheVariants.{Memory, OtherPlan}
use Rattle.cut_journal.specs.File.{HoldsAllTotals}
use Rattle.cut_journal.proofs.Adding.{none_added}
use Rattle.cut_shares.specs.join.Joining.{EndsJoin}
use Rattle.cut_shares.proofs.Words.{All, AreGood, DiskLog, EndsAdding, JournalValue, Slip, StoreFault, Values, joined}
use Rattle.cut_shares.proofs.join.joining.join.Goals as goal

good_hold : (v w : Values) (slips : List Slip) → w ≡ v → AreGood v slips
    → All (λ (s : Slip). HoldsAllTotals (version_of w.failing) s.totals) slips
good_hold v w slips same good k d low =
    grind arith

-- how a join ends where the adding of the joined slips does
joins_err : {D : Type 0} (log : D → DiskLog) (e : StoreFault) (v : Values) (ss : List Slip) (old new : JournalValue D)
    → old.plan ≡ v → EndsAdding {T = ⊤} log (Err e) (joined v ss) old new → EndsJoin log (Err e) v ss old new
joins_err log Memory v ss old new same (added, failed, is) = absurd is.1
joins_err log OtherPlan v ss old new same (added, failed, is) = absurd is.1
joins_err log e v ss old new same (added, failed, is) = (added, failed, (is.0, (same, is.1)))

pub returns-in_err-joined : goal.returns-in_err-joined
returns-in_err-joined g c =
    let p = err_from_is_err_and c.from_residual.result c.from_residual.ensures.1 in
    rw (p.1, p.2)
    ([], None, (none_added g.D.Disk.log c.args.journal.now c.journals_stay_readable.ensures.sound, (refl, refl)))

pub returns-then-not-same : goal.returns-then-not-same
returns-then-not-same g c =
    let log = c.args.journal.now in
    ([], None, (none_added g.D.Disk.log log c.journals_stay_readable.ensures.sound, (search rules, (refl, refl))))

pub add_all-requires : goal.add_all-requires
add_all-requires g c =
    rw c.deref.ensures.value
    (good_hold c.args.accepted.now.plan c.args.journal.now.plan c.in_ok-joined.joined.items (search rules)
    c.in_ok-joined.ensures.good)

pub returns-in_err-add_all : goal.returns-in_err-add_all
returns-in_err-add_all g c =
    let p = err_from_is_err_and c.from_residual-in_err-add_all.result c.from_residual-in_err-add_all.ensures.1 in
    rw (p.1, p.2)
    (joins_err g.D.Disk.log c.in_err-add_all.field-0.0 c.args.accepted.now.plan c.args.accepted.now.slips
    c.args.journal.now c.add_all.new.self (search rules)
    (rw (c.deref.ensures.value, c.in_ok-joined.ensures.joined) at c.in_err-add_all.ensures))

pub returns : goal.returns
returns g c =
    let long : vec_len c.in_ok-joined.joined ≡ length c.in_ok-joined.joined.items = search rules in
    let ends = rw (c.deref.ensures.value, c.in_ok-joined.ensures.joined) at c.in_ok-add_all.ensures in
    let count = c.len.ensures ∙ long ∙ ap length c.in_ok-joined.ensures.joined in
    (ends.0, ends.1, (ends.2.0, (search rules, ends.2.1, count)))
