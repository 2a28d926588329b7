use Rattle.std.proofs.Common.{◌≡◌, ◌∙◌, ◌+◌, ◌++◌, List, ℕ, length, take, drop, sym, ap, subst, suc, arith}
use Rattle.std.proofs.lemmas.Iterator.{YieldsList-from_chars}
use Rattle.std.proofs.lemmas.Iterator.Consumers.{YieldsList-turn, YieldsList-end, YieldsList-so_far}
use Rattle.std.proofs.lemmas.List.{length_push}
use Rattle.std.specs.List.{flat_map}
use Rattle.std.specs.Str.{chars}
use Rattle.cut_wires.proofs.Logs.{wrote_more}
use Rattle.cut_wires.specs.Log.{wrote}
use Rattle.cut_jobs.specs.Quoted.{quoted_char}
use Rattle.cut_jobs.specs.Sending.{IsCutShort}
use Rattle.cut_jobs.proofs.QuotedPaths.{flat_map_around, flat_map_next}
use Rattle.cut_jobs.proofs.RefusedFiles.{cut_after, cut_before}
use Rattle.cut_jobs.proofs.joins.send_quoted.Goals as goal

next : (n k : ℕ) → k ≡ n + 1 → suc n ≡ k
next n k is = omega (arith, is)

pub loop-character-preserved : goal.loop-character-preserved
loop-character-preserved g c =
    let log = g.E.Wire.log in
    let all = chars c.args.path.now in
    let n = length c.loop-character.yielded in
    let turn = YieldsList-turn (YieldsList-from_chars c.args.path.now c.utf8.path cc) c.loop-character.yielded _
    c.loop-character.yielded_by _ _ c.in-Some.character c.in-Some.is c.next.ensures.steps in
    wrote_more (log c.args.errors.now) (log c.loop-character.errors) (log c.send_all.new.wire)
    (flat_map quoted_char (take n all)) (quoted_char c.in-Some.character) c.loop-character.invariant
    (rw (c.as_bytes.ensures.value ∙ c.deref.ensures.0 ∙ c.quoted_char-piece.ensures) at c.in-Ok.ensures)
    ∙ ap (λ (text : List ℕ). wrote (log c.args.errors.now) text)
    (sym (flat_map_next quoted_char all n c.in-Some.character turn)
    ∙ ap (λ (k : ℕ). flat_map quoted_char (take k all)) (next n _ (length_push c.loop-character.yielded c.in-Some.character)))

pub returns-in-Err : goal.returns-in-Err
returns-in-Err g c =
    let log = g.E.Wire.log in
    let all = chars c.args.path.now in
    let n = length c.loop-character.yielded in
    let turn = YieldsList-turn (YieldsList-from_chars c.args.path.now c.utf8.path cc) c.loop-character.yielded _
    c.loop-character.yielded_by _ _ c.in-Some.character c.in-Some.is c.next.ensures.steps in
    let before = flat_map quoted_char (take n all) in
    let after = flat_map quoted_char (drop (suc n) all) in
    let cut = rw (c.as_bytes.ensures.value ∙ c.deref.ensures.0 ∙ c.quoted_char-piece.ensures) at c.in-Err.ensures in
    let sent = c.in-Err.field-0.sent in (
      length before + sent,
      subst (λ (text : List ℕ). IsCutShort text (length before + sent) (log c.args.errors.now) (log c.send_all.new.wire))
          (flat_map_around quoted_char all n c.in-Some.character turn)
          (cut_after before (quoted_char c.in-Some.character ++ after) sent (log c.args.errors.now)
          (log c.loop-character.errors) (log c.send_all.new.wire) c.loop-character.invariant
          (cut_before (quoted_char c.in-Some.character) after sent (log c.loop-character.errors) (log c.send_all.new.wire)
          (cut.1, cut.0))),
    )

pub returns : goal.returns
returns g c =
    let log = g.E.Wire.log in
    let all = chars c.args.path.now in
    let from = YieldsList-from_chars c.args.path.now c.utf8.path cc in
    let so_far = YieldsList-so_far from c.loop-character.yielded _ c.loop-character.yielded_by in
    let end = YieldsList-end from c.loop-character.yielded _
    c.loop-character.yielded_by _ _ c.in-None.is c.next.ensures.steps in
    c.loop-character.invariant
    ∙ ap (λ (xs : List ℕ). wrote (log c.args.errors.now) (flat_map quoted_char xs))
    (sym so_far ∙ end.0)
