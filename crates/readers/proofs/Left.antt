-- What is left of a pass: taken item by item, or the items of one number after the other.
-- Assumes nothing.
use Prim.Native.Nat.{ℕ, ◌+◌, ◌-◌, ◌<◌, ◌≤◌}
use mathlib.Core.Path.{◌≡◌, refl, ◌∙◌}
use mathlib.Core.List.{List, [], ◌∷◌, ◌++◌, map}
use lib.ListN.{length, get_or, drop, drop_of_length-le}
use Rattle.std.proofs.lemmas.List.{drop_more}
use Rattle.theory.specs.declared.Counts.{Counts}
use Rattle.readers.specs.Joined.{joined, joined_first, joined_past}
use Rattle.readers.specs.Incidences.{Item, items_at, producer_items, root_items, incidences}
use Rattle.readers.specs.Pass.{passed, Fits}

-- a pass over items that are made of others
module _ {A B : Type 0} (g : A → B) (step : B → List ℕ → List ℕ) where
  pub passed-map : (xs : List A) (words : List ℕ) → passed (λ x. step (g x)) xs words ≡ passed step (map g xs) words
  unfolding passed
  passed-map [] words = refl
  passed-map (x ∷ xs) words = passed-map xs (step (g x) words)

  pub fits_map : (Room : B → List ℕ → Type 0) (xs : List A) (words : List ℕ) → Fits Room step (map g xs) words → Fits (λ x. Room (g x)) (λ x. step (g x)) xs words
  unfolding Fits
  fits_map Room [] words h = tt
  fits_map Room (x ∷ xs) words h = (h.0, fits_map Room xs (step (g x) words) h.1)

-- a pass over at most two items
module _ {A : Type 0} (step : A → List ℕ → List ℕ) (xs : List A) (words : List ℕ) where
  pub pass_none : xs ≡ [] → words ≡ passed step xs words
  unfolding passed
  pass_none e = rw e

  pub pass_one : (x : A) → xs ≡ x ∷ [] → step x words ≡ passed step xs words
  unfolding passed
  pass_one x e = rw e

  pub pass_two : (x y : A) → xs ≡ x ∷ y ∷ [] → step y (step x words) ≡ passed step xs words
  unfolding passed
  pass_two x y e = rw e

module _ {A : Type 0} (Room : A → List ℕ → Type 0) (step : A → List ℕ → List ℕ) where
  -- `left` still has to be passed, with `end` behind it
  pub record Left (left : List A) (words end : List ℕ) : Type 0 where
    pub fits : Fits Room step left words
    pub ends : passed step left words ≡ end

  pub left_all : (xs : List A) (words : List ℕ) → Fits Room step xs words → Left xs words (passed step xs words)
  left_all xs words h = record { fits = h; ends = refl }

  pub left_part : (xs ys : List A) (words end : List ℕ) → Left (xs ++ ys) words end → Fits Room step xs words × Left ys (passed step xs words) end
  unfolding passed Fits
  left_part [] ys words end h = (tt, h)
  left_part (x ∷ xs) ys words end h =
      let r = left_part xs ys (step x words) end (record { fits = h.fits.1; ends = h.ends }) in
      ((h.fits.0, r.0), r.1)

  pub left_first : (x : A) (xs : List A) (words end : List ℕ) → Left (x ∷ xs) words end → Room x words × Left xs (step x words) end
  unfolding passed Fits
  left_first x xs words end h = (h.fits.0, record { fits = h.fits.1; ends = h.ends })

  pub left_none : (words end : List ℕ) → Left [] words end → words ≡ end
  unfolding passed
  left_none words end h = h.ends

  pub room_one : (xs : List A) (words : List ℕ) (x : A) → xs ≡ x ∷ [] → Fits Room step xs words → Room x words
  unfolding Fits
  room_one xs words x e h = (rw e at h).0

  module _ (xs : List A) (words : List ℕ) (x y : A) (e : xs ≡ x ∷ y ∷ []) (h : Fits Room step xs words) where
    pub room_first : Room x words
    unfolding Fits
    room_first = (rw e at h).0

    pub room_second : (out : List ℕ) → out ≡ step x words → Room y out
    unfolding Fits
    room_second out q = rw q (rw e at h).1.0

  -- the lists of the numbers from i up to n are left
  module _ (f : ℕ → List A) (i n : ℕ) (words end : List ℕ) (h : Left (joined f i (n - i)) words end) where
    turn : i < n → Fits Room step (f i) words × Left (joined f (i + 1) (n - (i + 1))) (passed step (f i) words) end
    turn l = left_part (f i) (joined f (i + 1) (n - (i + 1))) words end (rw (joined_first f i n l) at h)

    pub number_fits : i < n → Fits Room step (f i) words
    number_fits l = (turn l).0

    pub number_next : i < n → (out : List ℕ) → out ≡ passed step (f i) words → Left (joined f (i + 1) (n - (i + 1))) out end
    number_next l out e = rw e (turn l).1

    pub numbers_done : n ≤ i → words ≡ end
    numbers_done l = left_none words end (rw (joined_past f i n l) at h)

-- the elements of a list from i on are left
module _ (Room : ℕ → List ℕ → Type 0) (step : ℕ → List ℕ → List ℕ) (xs : List ℕ) (i : ℕ) (words end : List ℕ) (h : Left Room step (drop i xs) words end) where
  pub element_turn : i < length xs → Room (get_or xs i 0) words × Left Room step (drop (i + 1) xs) (step (get_or xs i 0) words) end
  element_turn l = left_first Room step (get_or xs i 0) (drop (i + 1) xs) words end (rw (drop_more xs i 0 l) at h)

  pub elements_done : length xs ≤ i → words ≡ end
  elements_done l = left_none Room step words end (rw (drop_of_length-le xs l) at h)

-- a pass over all incidences: nodes, then producers, then root positions
module _ (Room : Item → List ℕ → Type 0) (step : Item → List ℕ → List ℕ) (t : Counts) (nodes operands roots producers : List ℕ) (p : ℕ) where
  abbrev of_nodes : List Item
  of_nodes = joined (items_at t nodes operands) 0 t.nodes

  abbrev of_producers : List Item
  of_producers = joined (producer_items producers) 0 p

  abbrev of_roots : List Item
  of_roots = joined (root_items roots) 0 t.roots

  abbrev of_all : List Item
  of_all = incidences t nodes operands roots producers p

  module _ (words : List ℕ) (h : Fits Room step of_all words) where
    parts : Fits Room step of_nodes words × Left Room step (of_producers ++ of_roots) (passed step of_nodes words) (passed step of_all words)
    unfolding incidences
    parts = left_part Room step of_nodes (of_producers ++ of_roots) words (passed step of_all words) (left_all Room step of_all words h)

    pub nodes_fit : Fits Room step of_nodes words
    nodes_fit = parts.0

    module _ (behind : List ℕ) (a : behind ≡ passed step of_nodes words) where
      later : Fits Room step of_producers behind × Left Room step of_roots (passed step of_producers behind) (passed step of_all words)
      later = left_part Room step of_producers of_roots behind (passed step of_all words) (rw a parts.1)

      pub producers_fit : Fits Room step of_producers behind
      producers_fit = later.0

      module _ (last : List ℕ) (b : last ≡ passed step of_producers behind) where
        pub roots_fit : Fits Room step of_roots last
        roots_fit = rw b later.1.fits

        pub all_passed : (out : List ℕ) → out ≡ passed step of_roots last → out ≡ passed step of_all words
        all_passed out e = e ∙ rw b later.1.ends
