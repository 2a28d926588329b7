-- What only the crate's own clauses and proofs cite, beside specs/Views.antt.
use Rattle.std.specs.Prelude.{◌+◌, ◌-◌, List, ◌++◌, length, flat_map}
use Rattle.cut_board.specs.declared.view.View.{View}

-- one part of it was given to a new seat
abbrev pub part_given : View → View
part_given v = record v { parts = v.parts - 1 }

-- it took in what another seat has done
abbrev pub joined : View → View → View
joined v w = record { parts = v.parts + w.parts; log = w.log ++ v.log }

-- a seat that took in these, each of one part
abbrev pub gathered : List View → View
gathered views = record { parts = length views; log = flat_map (λ v. v.log) views }
