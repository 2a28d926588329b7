-- Which processes alerts may be about.
use Rattle.std.specs.Prelude.{◌≡◌, ℕ, ◌<◌, Bool, true, false, List, slice_index_or}
use Rattle.cut_rings.specs.Layout.{Layout, Observes}
use Rattle.cut_alerts.specs.Assignment.{Assignment}
use Rattle.cut_alerts.specs.Alerted.{is_alerted}

-- whether a process is marked
abbrev pub is_marked : List Bool → ℕ → Bool
is_marked marks s = slice_index_or marks s false

-- a process and all that it observes on the first k rings are marked
pub record AreSuspects (r : Layout) (k p : ℕ) (marks : List Bool) : Type 0 where
  pub own : is_marked marks p ≡ true
  pub subjects : (ring s : ℕ) → ring < k → s < r.nodes → Observes r ring p s → is_marked marks s ≡ true

-- no observer on the first k rings raises an alert about s
abbrev pub HasNoAlert : Layout → Assignment → ℕ → ℕ → Type 0
HasNoAlert r a k s = (ring : ℕ) → ring < k → is_alerted r a (record { ring = ring; subject = s }) ≡ false
