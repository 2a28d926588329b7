use Rattle.cut_machines.proofs.FilesOfShares.{files_true, whole_times}
use Rattle.cut_machines.proofs.laws.shares_join_to_the_table.Goals as goal

pub returns-clause-slips : goal.returns-clause-slips
returns-clause-slips c = files_true

pub returns-clause-good : goal.returns-clause-good
returns-clause-good c = λ sharing v files are.
    c.true_slips_give_the_table.ensures.good v _ (files_true sharing v files are)

pub returns-clause-table : goal.returns-clause-table
returns-clause-table c = λ sharing v files plan are.
    c.joined_slips_give_the_same_table.ensures.whole v _ plan (files_true sharing v files are)

pub returns-clause-whole : goal.returns-clause-whole
returns-clause-whole c = λ sharing v files plan are whole.
    whole_times sharing v c.joined_slips_give_the_same_table.ensures.slips
    c.true_slips_give_the_table.ensures.good c.joined_slips_have_the_same_trials.ensures.trials
    files plan are whole
