use Rattle.std.proofs.Common.{◌∙◌, sym}
use Rattle.cut_slots.proofs.accounts.Accounts.compare.Goals as goal

pub returns : goal.returns
returns g c =
    c.audit.ensures.whole c.requires.made ∙ c.args.self.now.made_is
    ∙ sym (c.audit-2.ensures.whole c.requires.kept ∙ c.args.self.now.kept_is)
