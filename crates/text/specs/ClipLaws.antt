-- Laws of a text put piece by piece.
-- Assumes nothing.
use Rattle.std.specs.Prelude.{ℕ, suc, ◌+◌, ◌≤◌, ◌<◌, ◌≡◌, refl, List, [], ◌∷◌, ◌++◌, length, get_or, set, take, drop}
use Rattle.std.proofs.Common.{add-one, arith, sym, ap, ◌∙◌, append-nil, append_assoc, length-append, length-drop, drop_of_length-le, take_all, take-suc, drop-cons}
use Rattle.std.proofs.Math.ListN.{length-take}
use Rattle.std.proofs.lemmas.List.{take-append-le, set_at}
use Rattle.text.specs.Clip.{clip, Put}

-- ---- a text clipped

-- all of it fits
fits : (ws text : List ℕ) → length text ≤ length ws → clip ws text ≡ text ++ drop (length text) ws
unfolding clip
fits ws text h = ap (λ l. l ++ drop (length text) ws) (take_all (length ws) text h)

-- it fills the slice
fills : (ws text : List ℕ) → length ws ≤ length text → clip ws text ≡ take (length ws) text
unfolding clip
fills ws text h =
    ap (λ l. take (length ws) text ++ l) (drop_of_length-le ws {i = length text} h)
    ∙ append-nil (take (length ws) text)

module _ (ws text : List ℕ) where
  pub length-clip : length (clip ws text) ≡ length ws
  unfolding clip
  length-clip = simp (length-append, length-take, length-drop) (omega arith)

  module _ (b : ℕ) where
    longer : length (text ++ (b ∷ [])) ≡ suc (length text)
    longer = length-append text (b ∷ []) ∙ add-one (length text)

    pub clip_more : length text < length ws → set (clip ws text) (length text) b ≡ clip ws (text ++ (b ∷ []))
    clip_more h =
        ap (λ l. set l (length text) b) (fits ws text (omega arith) ∙ ap (λ l. text ++ l) (drop-cons ws (length text) 0 h))
        ∙ set_at text (get_or ws (length text) 0) (drop (suc (length text)) ws) b (length text) refl
        ∙ sym (append_assoc text (b ∷ []) (drop (suc (length text)) ws))
        ∙ ap (λ n. (text ++ (b ∷ [])) ++ drop n ws) (sym longer)
        ∙ sym (fits ws (text ++ (b ∷ [])) (omega (arith, longer)))

    pub clip_full : length ws ≤ length text → clip ws text ≡ clip ws (text ++ (b ∷ []))
    clip_full h =
        fills ws text h
        ∙ sym (take-append-le (length ws) text (b ∷ []) h)
        ∙ sym (fills ws (text ++ (b ∷ [])) (omega (arith, longer)))

-- ---- pieces

pub put_none : (out : List ℕ) (at : ℕ) → Put out at [] at out
put_none out at =
    record { on = omega arith; put = λ ws text e l. e ∙ ap (clip ws) (sym (append-nil text)) }

-- a byte that fits
pub put_byte : (out : List ℕ) (at b : ℕ) → at < length out → Put out at (b ∷ []) (at + 1) (set out at b)
put_byte out at b h = record { on = refl; put = λ ws text e l. stored ws text e l }
  where
    stored : (ws text : List ℕ) → out ≡ clip ws text → at ≡ length text → set out at b ≡ clip ws (text ++ (b ∷ []))
    stored ws text e l = rw (e, l) (clip_more ws text b (omega (arith, ap length e, length-clip ws text)))

-- a byte past the slice
pub put_past : (out : List ℕ) (at b : ℕ) → length out ≤ at → Put out at (b ∷ []) (at + 1) out
put_past out at b h = record { on = refl; put = λ ws text e l. passed ws text e l }
  where
    passed : (ws text : List ℕ) → out ≡ clip ws text → at ≡ length text → out ≡ clip ws (text ++ (b ∷ []))
    passed ws text e l = e ∙ clip_full ws text b (omega (arith, ap length e, length-clip ws text))

-- one piece after the other
pub put_then : {before mid after p q : List ℕ} {at m end : ℕ} → Put before at p m mid → Put mid m q end after → Put before at (p ++ q) end after
put_then {before} {mid} {after} {p} {q} {at} {m} {end} a b = record {
  on = b.on ∙ rw length-append (omega (arith, a.on));
  put = λ ws text e l. b.put ws (text ++ p) (a.put ws text e l) (a.on ∙ rw length-append (omega (arith, l)))
      ∙ ap (clip ws) (append_assoc text p q);
}

pub put_same : {before after p q : List ℕ} {at end : ℕ} → p ≡ q → Put before at p end after → Put before at q end after
put_same e a = rw e at a

-- where a text goes on, by a bound on the piece
pub put_end : {before after p : List ℕ} {at end : ℕ} (n : ℕ) → Put before at p end after → length p ≤ n → end ≤ at + n
put_end n a h = omega (arith, a.on)

-- a text so far, and its next byte
pub put_next : (text : List ℕ) (i : ℕ) {before mid after : List ℕ} {at m end : ℕ} → i < length text → Put before at (take i text) m mid → Put mid m (get_or text i 0 ∷ []) end after → Put before at (take (i + 1) text) end after
put_next text i h a b =
    put_same (sym (ap (λ k. take k text) (add-one i) ∙ take-suc text i 0 h)) (put_then a b)
