use Rattle.std.proofs.Common.{◌≡◌, ◌∙◌, ◌+◌, ◌∷◌, [], ℕ, All, length, rules, sym, subst, ap, arith, length-append}
use Rattle.std.proofs.lemmas.List.Elements.{All-push}
use Rattle.cut_faults.specs.Failures.{one_more}
use Rattle.cut_server.specs.Serve.{Calls, all_given}
use Rattle.cut_server.proofs.AttendLemmas.{one_more_given}
use Rattle.cut_server.proofs.threads.start_sessions.Goals as goal

abbrev more_at : ℕ → ℕ → Calls
more_at given failed = record { given = given; failed = failed }

pub loop-pass-preserved : goal.loop-pass-preserved
loop-pass-preserved g c =
    let was = c.loop-pass.invariant in
    let mine : c.in-Some.pass.hall ≡ g.H.ServerHall.id_of c.args.site.now.hall.now = let h = was.rest 0 c.in-Some.pass
    in grind rules in
    record {
      can = tt;
      finite = tt;
      rest = λ k d low. let h = was.rest (k + 1) d in grind rules;
      own = subst (All (λ h. h.promise.0.value.hall ≡ g.H.ServerHall.id_of c.args.site.now.hall.now))
          (sym c.push_reserved.ensures.items)
          (All-push (λ h. h.promise.0.value.hall ≡ g.H.ServerHall.id_of c.args.site.now.hall.now)
          c.loop-pass.started.items c.in-Ok-session.session
          was.own (ap (λ p. p.0.value.hall) c.in-Ok-session.ensures.ok ∙ ap (λ p. p.hall) c.of.ensures ∙ mine));
      whole = search rules;
      room = search rules;
      calls = c.in-Ok-accept.ensures ∙ ap (λ (calls : Calls). more_at (one_more calls.given) calls.failed) was.calls
          ∙ ap (λ (n : ℕ). more_at n (g.L.Listener.calls c.args.listener.now).failed)
          (sym (one_more_given (length c.loop-pass.started.items) (g.L.Listener.calls c.args.listener.now).given))
          ∙ ap (λ (n : ℕ). all_given n (g.L.Listener.calls c.args.listener.now))
          (let long : length c.loop-pass.started.items + 1
          ≡ length c.push_reserved.new.self.items = omega (
            arith,
            ap length c.push_reserved.ensures.items,
            length-append c.loop-pass.started.items
                (c.in-Ok-session.session ∷ []),
          ) in long);
    }
