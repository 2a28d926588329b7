use Rattle.std.proofs.Common.{◌≡◌, ◌∙◌, ◌++◌, ◌∷◌, [], List, ℕ, ap, Vec, Global}
use Rattle.cut_status.specs.Status.{StatusValue, status_text}
use Rattle.cut_status.proofs.Printing.{count_lines, lines_are}
use Rattle.cut_status.proofs.status.Status.to_text.Goals as goal

pub returns : goal.returns
returns c =
    let s : StatusValue = record {
      held = c.self.inside.held;
      trials = c.self.inside.trials;
      done = c.self.inside.done;
      cells = c.self.inside.cells;
      slips = c.self.inside.slips;
      text = c.self.inside.text.items;
    } in
    let counts : c.into_bytes-text.result.items ≡ count_lines s =
    ap (λ (v : Vec ℕ Global). v.items) c.into_bytes-text.ensures.value ∙ c.in_ok-counts.ensures.ok in
    let all : c.push.new.self.items ≡ (c.into_bytes-text.result.items ++ s.text) ++ 10 ∷ [] =
    c.in_ok-push.ensures.items ∙ ap (λ (xs : List ℕ). xs ++ 10 ∷ []) (c.in_ok-extend_from_slice.ensures.items
    ∙ ap (λ (xs : List ℕ). c.into_bytes-text.result.items ++ xs) c.as_slice.ensures.value) in
    lines_are s c.into_bytes-text.result.items c.push.new.self.items counts all
    ∙ ap (λ (x : StatusValue). status_text x) c.self.view_is
