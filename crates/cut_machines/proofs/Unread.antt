-- How a command ends whose plan was not given.
use Rattle.std.proofs.Common.{◌⊎◌, inl, inr, Bool, ℕ, List, Option, Some, None, Err, length, nat_lt}
use Rattle.cut_files.specs.Place.{Place}
use Rattle.cut_wires.specs.Log.{WireLog}
use Rattle.cut_commands.specs.Run.{CommandAnswers, EndsRead, GivesPlanFrom, HasUnread, IsReadAs}
use Rattle.cut_commands.specs.Task.{Task}
use Rattle.cut_commands.specs.declared.fault.CliFault.{CliFault}
use Rattle.cut_commands.proofs.RunLemmas.{ends_unread}
use Rattle.cut_commands.proofs.Sources.{ends_refused_text}

-- a text was read that is no plan, and the command ends as one does then
pub record EndsOnNoPlan (task : Task) (plan : Option Place) (fault : CliFault) (old new : WireLog) : Type 0 where
  pub ends : EndsRead (CommandAnswers task) plan old new (Err fault)
  pub text : List ℕ
  pub ended : Bool
  pub is : IsReadAs text ended (Err fault)

-- or none was read
pub ends_without : (task : Task) (plan : Option Place) (fault : CliFault) (old new : WireLog)
    → GivesPlanFrom plan (Err fault) old new
    → EndsOnNoPlan task plan fault old new ⊎ HasUnread plan (Err fault) old new
ends_without task None fault old new given = inl (record {
  ends = ends_unread task fault old new given;
  text = given.text;
  ended = given.ended;
  is = given.is;
})
ends_without task (Some place) fault old new (inl (text, (is, none, same))) = inl (record {
  ends = ends_refused_text task place fault old new text is none same;
  text = text;
  ended = nat_lt (length text) 65537;
  is = none;
})
ends_without task (Some place) fault old new (inr unread) = inr unread
