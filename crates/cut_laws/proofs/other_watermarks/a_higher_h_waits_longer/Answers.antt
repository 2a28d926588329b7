use Rattle.cut_laws.proofs.OtherWatermarks.{higher_longer}
use Rattle.cut_laws.proofs.other_watermarks.a_higher_h_waits_longer.Goals as goal

pub returns : goal.returns
returns c =
    higher_longer c.proposes_at_least_place.ensures c.edges_come_at_their_first_time.ensures.stays
    c.a_wider_gap_proposes_later.ensures.high c.higher_h.ensures.totals
