use Rattle.cut_files.proofs.Everywhere.{stays_everywhere}
use Rattle.cut_files.proofs.laws.places_stay_everywhere.Goals as goal

pub returns : goal.returns
returns c = stays_everywhere
