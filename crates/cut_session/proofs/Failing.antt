-- Which calls failed in a session, by how it ended.
use Rattle.std.proofs.Common.{◌≡◌, ◌∙◌, take, inl, inr, refl, ap}
use Rattle.std.specs.Prelude.{◌⊎◌}
use Rattle.cut_board.specs.declared.view.View.{View}
use Rattle.cut_wires.specs.Log.{WireLog, Failed, with_read, with_write}
use Rattle.cut_hall.specs.Hall.{HallValue}
use Rattle.cut_session.specs.declared.session_end.SessionEnd.{SessionEnd}
use Rattle.cut_session.specs.declared.session_end.SessionEnd.TheVariants as end
use Rattle.cut_session.specs.declared.session_end.SessionFault.{SessionFault}
use Rattle.cut_session.specs.declared.session_end.SessionFault.TheVariants as session
use Rattle.cut_session.specs.Laws.{HasFailedCalls}
use Rattle.cut_session.specs.Session.{EndsSession, passed, read_by, replies_to}

-- a write failed after what the last read did
by_write : (fault : SessionFault) (l new : WireLog) (f : Failed) → l.failed ≡ f → new.failed
    ≡ with_write (read_by fault l).failed
    → (new.failed ≡ with_write f) ⊎ (new.failed ≡ with_write (with_read f))
by_write session.Read l new f same is = inr (is ∙ ap (λ (g : Failed). with_write (with_read g)) same)
by_write fault l new f same is = inl (is ∙ ap (λ (g : Failed). with_write g) same)

pub failed_at : (hall : HallValue) (low high : View) (end : SessionEnd) (old new : WireLog)
    → EndsSession hall low high end old new
    → HasFailedCalls end old.failed new.failed
failed_at hall low high end.Quit old new (c, is, ends) = ap (λ (l : WireLog). l.failed) ends.3
failed_at hall low high end.EndOfInput old new (c, is, ends) = ap (λ (l : WireLog). l.failed) ends.2
failed_at hall low high (end.Fault session.Read) old new (c, is, ends) = ap (λ (l : WireLog). l.failed) ends.1
failed_at hall low high (end.Fault fault) old new (c, is, ends) = ap (λ (l : WireLog). l.failed) ends.1
failed_at hall low high (end.Write fault) old new (c, is, inl cut) = inl (ap (λ (l : WireLog). l.failed) cut.4)
failed_at hall low high (end.Write fault) old new (c, is, inr cut) =
    by_write cut.0 (passed c (take fault.sent (replies_to cut.0 c)) old) new old.failed refl
    (ap (λ (l : WireLog). l.failed) cut.4)
