use Rattle.std.proofs.Common.{false, arith, refl}
use Rattle.std.proofs.lemmas.Simd.{splat_is_map}
use Rattle.cut_ledger.proofs.Words.{Values, opened}
use Rattle.cut_ledger.proofs.Law.{opened_holds}
use Rattle.cut_ledger.proofs.Events.{sent_reached}
use Rattle.cut_ledger.proofs.run.Run.open.Goals as goal

pub invariant_of-result : goal.invariant_of-result
invariant_of-result c =
    let v : Values = c.args.ledger.contents.plan in
    let begins = opened_holds v c.requires.ledger.some c.args.has_journal c.args.kept.items c.args.size
    c.requires.ledger.slips in
    sent_reached v (opened v c.args.has_journal c.args.kept.items c.args.size) _ begins.reached c.requires.ledger.over
    refl refl refl (omega arith)

pub returns : goal.returns
returns c =
    grind (arith, splat_is_map c.in_ok-division.division.items c.len.result false)
