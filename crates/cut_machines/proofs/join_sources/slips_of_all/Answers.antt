use Rattle.std.proofs.Common.{◌∙◌, ◌+◌, ◌<◌, ℕ, ap, length, subst, sym, take, arith}
use Rattle.cut_machines.specs.JoinSources.{AreRead, HoldAll}
use Rattle.cut_machines.specs.inside.JoinSources.{refused_at}
use Rattle.cut_machines.proofs.JoinSourceLemmas.{hold_more, length_first, open_where_unread, paths_of, read_more, split_at}
use Rattle.cut_machines.proofs.JoinSourceLemmas.{take_next, unread_next}
use Rattle.cut_machines.proofs.join_sources.slips_of_all.Goals as goal

pub returns-in-Err : goal.returns-in-Err
returns-in-Err g c =
    let i = c.loop-index.index in
    let low : i < length c.args.paths.now = omega arith in
    let found = g.F.Files.log c.args.files.now in
    let left = g.F.Files.log c.add_slips.new.files in
    let done = take i (paths_of c.args.paths.now) in
    let ends = unread_next found (g.F.Files.log c.loop-index.files) left done _ c.loop-index.invariant.read
    c.in-Err.ensures.elsewhere (paths_of c.args.paths.now) _ (split_at c.args.paths.now i _ low) c.args.plan.now
    c.loop-index.slips.items c.loop-index.invariant.held c.in-Err.fault c.unread_at.result.refused c.in-Err.ensures.stops
    c.in-Err.ensures.left (c.unread_at.ensures.refused
    ∙ ap (λ (n : ℕ). refused_at (n + 1) c.in-Err.fault) (sym (length_first c.args.paths.now i low))) in
    record {
      held = tt;
      read = tt;
      stops = rw c.unread_at.ensures.same ends.0;
      names = rw c.unread_at.ensures.same ends.1;
      stays = open_where_unread found left (paths_of c.args.paths.now) c.args.plan.now c.in-Err.fault ends.0;
    }

pub loop-index-preserved : goal.loop-index-preserved
loop-index-preserved g c =
    let found = g.F.Files.log c.args.files.now in
    let now = g.F.Files.log c.loop-index.files in
    let left = g.F.Files.log c.add_slips.new.files in
    let i = c.loop-index.index in
    let low : i < length c.args.paths.now = omega arith in
    let done = take i (paths_of c.args.paths.now) in
    record {
      held = subst (λ ps. HoldAll found ps c.args.plan.now c.add_slips.new.slips.items)
          (sym (take_next c.args.paths.now i _ low))
          (hold_more found now left done _ c.loop-index.invariant.read c.in_default.ensures.elsewhere c.args.plan.now
          c.loop-index.slips.items _ c.loop-index.invariant.held c.in_default.ensures.adds);
      read = subst (λ ps. AreRead found left ps) (sym (take_next c.args.paths.now i _ low))
          (read_more found now left done _ c.loop-index.invariant.read c.in_default.ensures.elsewhere
          c.in_default.ensures.left);
    }
