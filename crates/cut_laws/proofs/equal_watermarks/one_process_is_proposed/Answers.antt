use Rattle.cut_laws.proofs.NewEdges.{KnownOfEdges, one_process}
use Rattle.cut_laws.proofs.equal_watermarks.one_process_is_proposed.Goals as goal

pub returns : goal.returns
returns c = λ v k r d edges j low equal.
    let known : KnownOfEdges = record {
      names = c.edge_numbers_name_edges.ensures.names;
      none_first = c.edges_come_at_their_first_time.ensures.none;
      unheard = c.none_is_marked_unheard.ensures.stable;
      by_reports = c.equal_watermarks.ensures.stable;
    } in
    one_process known v k r d edges j low equal c.proposes_at_least_place.ensures c.equal_watermarks.ensures.first
