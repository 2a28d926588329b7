-- Images of the keys of deliveries, for four receivers at once (this project's profile).
use Rattle.std.specs.Prelude.{◌≡◌, ℕ, ◌+◌, ◌*◌, ◌-◌, ◌/◌, ◌%◌, ◌^◌, ◌≤◌, List, map, fold, min}
use Rattle.std.specs.List.{range_with_len}
use Rattle.cut_rings.specs.Edges.{edge_number}
use Rattle.cut_draws.specs.declared.delivery.Delivery.{Delivery}
use Rattle.cut_draws.specs.DeliveryOrder.{delivery_place}
use Rattle.cut_draws.specs.Source.{Source, key_at}

-- the image of the key at a place: its high 30 bits, which its high word has
abbrev pub image_at : Source → ℕ → ℕ
image_at d place = key_at d place / 2 ^ 34

-- what stands for the image of no key: it is above every image
abbrev pub never : ℕ
never = 2 ^ 31 - 1

-- the place of a key of a block: a block has 16 words, and a key two
abbrev pub place_in : ℕ → ℕ → ℕ
place_in block q = 16 * block + 2 * q

-- the block in which the keys of a copy's deliveries at a receiver begin
abbrev pub row_of : ℕ → ℕ → ℕ
row_of copy receiver = 2 ^ 16 + (copy * 2 ^ 11 + receiver) * 2 ^ 13

-- eight vectors: in each lane what a function makes of the vector's number and of the lane of another
abbrev pub eight : (ℕ → ℕ → ℕ) → List ℕ → List (List ℕ)
eight f xs = map (λ q. map (λ x. f q x) xs) (range_with_len 0 8)

-- the least image over the copies of a key of a block, this many blocks after a row begins; `never` if there is no copy
unfoldable pub least_image : Source → ℕ → ℕ → ℕ → ℕ → ℕ
least_image d copies block q row =
    fold (λ least c. min least (image_at d (place_in (row + (block + c * 2 ^ 24)) q))) never
    (range_with_len 0 copies)

-- the least over copies of what each gives for a key and a row; `never` if there is no copy
unfoldable pub least_over : (ℕ → ℕ → ℕ → ℕ) → ℕ → ℕ → ℕ → ℕ
least_over f copies q row = fold (λ least c. min least (f c q row)) never (range_with_len 0 copies)

-- the key of a delivery stands in the block that its edge's number says, of the row of its copy and receiver
abbrev pub DeliveriesStandInBlocks : Type 0
DeliveriesStandInBlocks =
    (receiver k : ℕ) (x : Delivery) → delivery_place receiver k x
    ≡ place_in (row_of x.copy receiver + edge_number k x.edge / 8) (edge_number k x.edge % 8)

-- and the rows of copies are as far from each other as a receiver's number may be
abbrev pub CopiesAreApart : Type 0
CopiesAreApart = (copy receiver : ℕ) → row_of copy receiver ≡ row_of 0 receiver + copy * 2 ^ 24

-- every image is below `never`
abbrev pub ImagesAreBelowNever : Type 0
ImagesAreBelowNever = (d : Source) (place : ℕ) → image_at d place ≤ 2 ^ 30 - 1
