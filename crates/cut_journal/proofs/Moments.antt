-- What every crash may leave of an honest disk, at each moment of a write that is made durable.
use Rattle.std.proofs.Common.{◌≡◌, ◌∙◌, ◌+◌, ◌++◌, inl, inr, ℕ, true, List, [], ◌∷◌, Result, Ok, Err}
use Rattle.std.proofs.Common.{length, refl, sym, ap, subst, arith, append_assoc}
use Rattle.std.specs.Bool.{⊤}
use Rattle.std.specs.List.{AllByRecursion}
use Rattle.std.specs.Result.{is_ok, OnOk}
use Rattle.std.proofs.lemmas.List.{take_all}
use Rattle.cut_disks.specs.State.{Stable, DiskState, IsImage, IsTorn, Throughout, Syncs, settled, written}
use Rattle.cut_disks.specs.State.{begun, synced, overwritten}
use Rattle.cut_disks.specs.Laws.{WritesStayInSpan}
use Rattle.cut_journal.specs.inside.Steps.{WritesThrough, Leave}
use Rattle.cut_journal.proofs.Counts.{alike_at}

-- a sync after a write
pub through_sync : {E : Type 0} (result : Result ⊤ E) (at : ℕ) (put : List ℕ) (old mid new : DiskState)
    → WritesStayInSpan → mid ≡ written old at put → Syncs result mid new → WritesThrough result at put old new
through_sync (Ok done) at put old mid new stay wrote is = is ∙ ap synced wrote
through_sync (Err fault) at put old mid new stay wrote is = inr
    (overwritten old.bytes at put, (stay old.bytes put at, is ∙ wrote))

-- the only image of what is durable
pub settled_is : (bytes image : List ℕ) → IsImage (settled bytes) image → image ≡ bytes
settled_is bytes image is =
    grind (arith, take_all (length bytes) image, alike_at (length bytes) image bytes, take_all (length bytes) bytes)

-- all images of a disk have a property
abbrev pub Images : (List ℕ → Type 0) → Stable → Type 0
Images P s = (image : List ℕ) → IsImage s image → P image

pub settled_images : (P : List ℕ → Type 0) (s : Stable) (bytes : List ℕ) → s ≡ settled bytes → P bytes → Images P s
settled_images P s bytes is holds image of = subst P
    (sym (settled_is bytes image (subst (λ (t : Stable). IsImage t image) is of))) holds

-- nothing happened
pub stays : (P : List ℕ → Type 0) (old new : DiskState) → new ≡ old → Images P old.stable → Throughout old new P
stays P old new is images = grind arith

each_append : (P : Stable → Type 0) (xs ys : List Stable) → AllByRecursion P xs → AllByRecursion P ys
    → AllByRecursion P (xs ++ ys)
each_append P [] ys all more = more
each_append P (x ∷ xs) ys all more = (all.0, each_append P xs ys all.1 more)

-- one thing after another
pub and_then : (P : List ℕ → Type 0) (old mid new : DiskState) → Throughout old mid P → Throughout mid new P
    → Throughout old new P
and_then P old mid new first next = grind (arith, append_assoc, each_append)

each_weaker : (P Q : List ℕ → Type 0) → ((bytes : List ℕ) → P bytes → Q bytes) → (xs : List Stable)
    → AllByRecursion (Images P) xs → AllByRecursion (Images Q) xs
each_weaker P Q implies [] all = tt
each_weaker P Q implies (x ∷ xs) all = (λ image of. implies image (all.0 image of), each_weaker P Q implies xs all.1)

pub weaker : (P Q : List ℕ → Type 0) → ((bytes : List ℕ) → P bytes → Q bytes) → (old new : DiskState)
    → Throughout old new P → Throughout old new Q
weaker P Q implies old new holds = grind (arith, each_weaker)

-- a durable write to a disk on which all was durable
pub record Through {E : Type 0} (P : List ℕ → Type 0) (result : Result ⊤ E) (at : ℕ) (put : List ℕ)
    (old new : DiskState) : Type 0 where
  pub moments : Throughout old new P
  pub left : Leave P new
  pub durable : is_ok result ≡ true → new.stable ≡ settled new.bytes
  pub bytes : is_ok result ≡ true → new.bytes ≡ overwritten old.bytes at put

begun_images : (P : List ℕ → Type 0) (at stop : ℕ) (old : DiskState) (torn : List ℕ) → old.stable ≡ settled old.bytes
    → ((image : List ℕ) → IsTorn at stop old.bytes image → P image) → Images P (begun old at stop torn).stable
begun_images P at stop old torn durable holds image of =
    grind arith

pub through_is : {E : Type 0} (P : List ℕ → Type 0) (result : Result ⊤ E) (at : ℕ) (put : List ℕ) (old new : DiskState)
    → WritesStayInSpan
    → old.stable ≡ settled old.bytes → P old.bytes
    → ((image : List ℕ) → IsTorn at (at + length put) old.bytes image → P image)
    → WritesThrough result at put old new → Through P result at put old new
through_is {E} P (Ok done) at put old new stay durable before torn is =
    let there : DiskState = synced (written old at put) in
    let after : P there.bytes = torn (overwritten old.bytes at put) (stay old.bytes put at) in
    let all = settled_images P there.stable there.bytes refl after in
    let begun = begun_images P at (at + length put) old there.bytes durable torn in
    let was = settled_images P old.stable old.bytes durable before in
    subst (λ (d : DiskState). Through {E = E} P (Ok done) at put old d) (sym is) (record {
      moments = record {
        since = (written old at put).stable ∷ old.stable ∷ [];
        goes_on = refl;
        each = (all, (begun, (was, tt)));
      };
      left = (after, all);
      durable = λ ok. refl;
      bytes = λ ok. refl;
    })
through_is {E} P (Err fault) at put old new stay durable before torn (inl none) = grind arith
through_is {E} P (Err fault) at put old new stay durable before torn (inr (left, is)) =
    let stop : ℕ = at + length put in
    let images : Images P (begun old at stop left).stable = begun_images P at stop old left durable torn in
    subst (λ (d : DiskState). Through {E = E} P (Err fault) at put old d) (sym is.1) (record {
      moments = record {
        since = old.stable ∷ [];
        goes_on = refl;
        each =
            (images, (settled_images P old.stable old.bytes durable before, tt));
      };
      left = (torn left is.0, images);
      durable = λ ok. absurd (cc);
      bytes = λ ok. absurd (cc);
    })

pub on_ok : {T E : Type 0} (result : Result T E) (P : Type 0) → (is_ok result ≡ true → P) → OnOk result P
on_ok result P holds =
    grind arith
