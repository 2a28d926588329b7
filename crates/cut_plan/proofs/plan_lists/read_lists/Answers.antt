use Rattle.cut_plan.proofs.Checked.{f_shorts, h_bytes, k_bytes, l_bytes}
use Rattle.cut_plan.proofs.plan_lists.read_lists.Goals as goal

pub shorts-requires : goal.shorts-requires
shorts-requires c = rw c.items_at.ensures (f_shorts _ c.requires)

pub bytes-requires : goal.bytes-requires
bytes-requires c = rw c.items_at-2.ensures (h_bytes _ c.requires)

pub bytes-requires-2 : goal.bytes-requires-2
bytes-requires-2 c = rw c.items_at-3.ensures (k_bytes _ c.requires)

pub bytes-requires-3 : goal.bytes-requires-3
bytes-requires-3 c = rw c.items_at-4.ensures (l_bytes _ c.requires)
