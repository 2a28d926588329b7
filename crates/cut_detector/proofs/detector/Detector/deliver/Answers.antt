-- Each exit of a delivery: settled before, still waiting, settled now.
use Rattle.std.proofs.Common.{◌+◌, refl, ◌∙◌}
use Rattle.cut_detector.proofs.Words.{Inside}
use Rattle.cut_detector.proofs.History.{Delivers, takes, history, history-settled, is_some-proposal}
use Rattle.cut_detector.proofs.detector.Detector.deliver.Goals as goal

pub returns-then-is_settled-clause-history : goal.returns-then-is_settled-clause-history
returns-then-is_settled-clause-history c delivered =
    history-settled _ c.args.edge delivered (is_some-proposal c.self.inside _ _ c.self.view_is c.is_settled.ensures
    ∙ c.if-is_settled.true)

abbrev waiting : goal.Then-not-is_settled → Inside
waiting c = record {
  reports = c.add.new.self;
  deliveries = c.self.inside.deliveries
      + 1;
  members = c.self.inside.members;
}

waits : (c : goal.Then-not-is_settled) → Delivers c.self.inside (waiting c) c.args.self.now c.args.edge
waits c = record {
  seen = c.self.view_is;
  layout = c.add.ensures.rings;
  rule = c.add.ensures.rule;
  reported =
      c.add.ensures.reported;
  deliveries = refl;
  within = c.requires.within;
}

pub returns-then-not-is_settled-clause-taken : goal.returns-then-not-is_settled-clause-taken
returns-then-not-is_settled-clause-taken c none = takes _ (waiting c) _ _ (waits c)

pub returns-then-not-is_settled-clause-history : goal.returns-then-not-is_settled-clause-history
returns-then-not-is_settled-clause-history c delivered =
    history _ (waiting c) _ _ delivered (waits c) (is_some-proposal c.self.inside _ _ c.self.view_is
    c.is_settled.ensures ∙ c.if-is_settled.false)

abbrev settled : goal.After-gather → Inside
settled c = record {
  reports = c.add.new.self;
  deliveries = c.self.inside.deliveries
      + 1;
  members = c.gather.new.members;
}

settles : (c : goal.After-gather) → Delivers c.self.inside (settled c) c.args.self.now c.args.edge
settles c = record {
  seen = c.self.view_is;
  layout = c.add.ensures.rings;
  rule = c.add.ensures.rule;
  reported =
      c.add.ensures.reported;
  deliveries = refl;
  within = c.requires.within;
}

pub returns-clause-taken : goal.returns-clause-taken
returns-clause-taken c none = takes _ (settled c) _ _ (settles c)

pub returns-clause-history : goal.returns-clause-history
returns-clause-history c delivered =
    history _ (settled c) _ _ delivered (settles c)
    (is_some-proposal c.self.inside _ _ c.self.view_is c.is_settled.ensures ∙ c.if-is_settled.false)
