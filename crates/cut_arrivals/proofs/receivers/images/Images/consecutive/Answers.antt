use Rattle.std.proofs.Common.{arith}
use Rattle.cut_arrivals.proofs.Consecutive.{consecutive_fit, consecutive_are}
use Rattle.cut_arrivals.proofs.receivers.images.Images.consecutive.Goals as goal

pub overflow_add-result : goal.overflow_add-result
overflow_add-result c =
    let fits = consecutive_fit c.args.self.now c.args.first c.args.key_places.now c.requires.within c.requires.keys
    c.requires.consecutive c.as_flattened-images.result.now c.as_flattened-images.ensures.value in
    grind arith

pub offset_bounds-images-first : goal.offset_bounds-images-first
offset_bounds-images-first c =
    let fits = consecutive_fit c.args.self.now c.args.first c.args.key_places.now c.requires.within c.requires.keys
    c.requires.consecutive c.as_flattened-images.result.now c.as_flattened-images.ensures.value in
    grind arith

pub slice_bounds-result-end : goal.slice_bounds-result-end
slice_bounds-result-end c =
    let fits = consecutive_fit c.args.self.now c.args.first c.args.key_places.now c.requires.within c.requires.keys
    c.requires.consecutive c.as_flattened-images.result.now c.as_flattened-images.ensures.value in
    grind arith

pub returns : goal.returns
returns c =
    consecutive_are c.args.self.now c.args.first c.args.key_places.now c.requires.within c.requires.keys
    c.requires.consecutive c.as_flattened-images.result.now c.as_flattened-images.ensures.value
