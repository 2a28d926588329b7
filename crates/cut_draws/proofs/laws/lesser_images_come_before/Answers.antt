use Rattle.cut_draws.proofs.KeyImages.{before_by_image, low_first}
use Rattle.cut_draws.proofs.Heard.{low_heard}
use Rattle.cut_draws.proofs.laws.lesser_images_come_before.Goals as goal

pub returns-clause-before : goal.returns-clause-before
returns-clause-before c = before_by_image

pub returns-clause-first : goal.returns-clause-first
returns-clause-first c = low_first

pub returns-clause-heard : goal.returns-clause-heard
returns-clause-heard c = low_heard
