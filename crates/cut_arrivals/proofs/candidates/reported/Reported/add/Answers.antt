use Rattle.std.proofs.Common.{◌∙◌, sym}
use Rattle.cut_arrivals.specs.candidates.inside.Reported.{alerts_of, rule_of_reported}
use Rattle.cut_arrivals.proofs.RunLemmas.{reported_by}
use Rattle.cut_arrivals.proofs.CandidateLemmas.{listed_push, listed_skip}
use Rattle.cut_arrivals.proofs.candidates.reported.Reported.add.Goals as goal

pub returns-then-not-is_reported-clause-listed : goal.returns-then-not-is_reported-clause-listed
returns-then-not-is_reported-clause-listed c =
    let t = c.args.self.now in
    listed_skip t c.args.subject c.args.candidates.now.blocks.items c.args.candidates.now.candidates.items
    (sym (reported_by (rule_of_reported t) (alerts_of t) c.args.subject c.args.edges.now c.requires.run.all)
    ∙ sym c.is_reported.ensures ∙ c.if-not-is_reported.true)
    c.requires.listed

pub candidate-requires-clause-reported : goal.candidate-requires-clause-reported
candidate-requires-clause-reported c =
    let t = c.args.self.now in
    sym (reported_by (rule_of_reported t) (alerts_of t) c.args.subject c.args.edges.now c.requires.run.all)
    ∙ sym c.is_reported.ensures ∙ c.if-not-is_reported.false

pub returns-clause-listed : goal.returns-clause-listed
returns-clause-listed c =
    let t = c.args.self.now in
    listed_push t c.args.subject c.args.candidates.now.blocks.items c.candidate.new.blocks.items _
    c.args.candidates.now.candidates.items c.push.new.self.items c.in_ok-candidate.candidate
    (sym (reported_by (rule_of_reported t) (alerts_of t) c.args.subject c.args.edges.now c.requires.run.all)
    ∙ sym c.is_reported.ensures ∙ c.if-not-is_reported.false)
    c.in_ok-candidate.ensures.blocks c.in_ok-candidate.ensures.subject c.in_ok-candidate.ensures.candidate
    c.in_ok-push.ensures.items c.requires.listed
