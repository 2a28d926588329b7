use Rattle.cut_draws.proofs.AlongOrder.{image_at_rank, images_rise, least_is_first}
use Rattle.cut_draws.proofs.laws.images_rise.Goals as goal

pub returns-clause-at : goal.returns-clause-at
returns-clause-at c = image_at_rank

pub returns-clause-rise : goal.returns-clause-rise
returns-clause-rise c = images_rise

pub returns-clause-least : goal.returns-clause-least
returns-clause-least c = least_is_first
