-- What each branch on the lowest false root and the lowest missing atom tells.
-- Assumes nothing.
use Rattle.std.specs.Prelude.{ℕ, ◌<◌, ◌≤◌, ◌-◌, ◌≡◌, refl, Bool, true, false, List, eqb, ltb, length, get_or, take, drop, Option, Some, None, Result, Ok, Err}
use Rattle.std.proofs.Common.{arith, sym, ◌∙◌, ltb-true}
use Rattle.std.proofs.Math.Path.{ap}
use Rattle.std.proofs.Math.Bool.{cond}
use Rattle.theory.specs.declared.Counts.{Counts}
use Rattle.words.specs.Next.{next}
use Rattle.kept.specs.CountedSet as sets
use Rattle.kept.specs.CountedSet.{CountedSet, lookup}
use Rattle.kept.specs.Tables.{Tables}
use Rattle.kept.specs.Layout.{of_words, missing_start, false_roots_start, groups_start, used}
use Rattle.kept.specs.Verdict as verdicts
use Rattle.kept.specs.Verdict.{judged, verdict_of}
use Rattle.kept_laws.specs.Exits.{lookup-none, lookup_found, lookup_astray}
use Rattle.kept_laws.specs.Given.{bare, sized, rooted}
use Rattle.kept_laws.specs.Written.{get_missing_size, get-false_roots-size, part_missing, part-false_roots}
use Rattle.verdict.specs.Told.{lookup_of}
use Rattle.kept_laws.specs.declared.OutOfRange.{OutOfRange}

-- ---- the lowest member

module _ (n r : ℕ) (s : CountedSet) where
  pub told_found : (s.size ≡ 0 → ⊥) → r ≡ next 32 s.members 0 → r < n → sets.at r ≡ lookup n 0 s
  told_found e q l = ap sets.at q ∙ sym (lookup_found n 0 s e (omega arith))

  pub told_astray : (s.size ≡ 0 → ⊥) → r ≡ next 32 s.members 0 → n ≤ r → sets.astray ≡ lookup n 0 s
  told_astray e q l = sym (lookup_astray n 0 s e (omega arith))

-- a member found is below n
pub lookup_below : (n i k : ℕ) (s : CountedSet) → lookup n i s ≡ sets.at k → k < n
unfolding lookup
lookup_below n i k s = go (eqb s.size 0) (ltb (next 32 s.members i) n) refl
  where
    go : (z b : Bool) → ltb (next 32 s.members i) n ≡ b → cond z sets.empty (cond b (sets.at (next 32 s.members i)) sets.astray) ≡ sets.at k → k < n
    go true b h e = let z : ◌≡◌ {A = ℕ} 0 1 = cc in absurd (omega arith)
    go false false h e = let z : ◌≡◌ {A = ℕ} 0 1 = cc in absurd (omega arith)
    go false true h e = let q : next 32 s.members i ≡ k = cc in omega (arith, ltb-true (next 32 s.members i) n h)

pub told_below : (t : Counts) (n k : ℕ) (s : Tables → CountedSet) (r : Result (Option ℕ) OutOfRange) → ((T : Tables) → lookup_of r ≡ lookup n 0 (s T)) → r ≡ Ok (Some k) → k < n
told_below t n k s r p q = lookup_below n 0 k (s (bare t)) (sym (p (bare t)) ∙ ap lookup_of q)

-- ---- a set lent as a slice, with its count in the header

module _ (T : Tables) (ws : List ℕ) where
  pub none_false : (n : ℕ) → get_or ws 3 0 ≡ 0 → sets.empty ≡ lookup n 0 (of_words T ws).false_roots
  none_false n e = sym (lookup-none n 0 (of_words T ws).false_roots (sym (get-false_roots-size T ws) ∙ e))

  pub none_missing : (n : ℕ) → get_or ws 2 0 ≡ 0 → sets.empty ≡ lookup n 0 (of_words T ws).missing
  none_missing n e = sym (lookup-none n 0 (of_words T ws).missing (sym (get_missing_size T ws) ∙ e))

  abbrev lent : ℕ → ℕ → ℕ → CountedSet
  lent a b i = record { members = take (b - a) (drop a ws); size = get_or ws i 0 }

  pub lent-false_roots : used T ≤ length ws → lent (false_roots_start T) (groups_start T) 3 ≡ (of_words T ws).false_roots
  lent-false_roots long = rw (part-false_roots T ws long, get-false_roots-size T ws)

  pub lent_missing : used T ≤ length ws → lent (missing_start T) (false_roots_start T) 2 ≡ (of_words T ws).missing
  lent_missing long = rw (part_missing T ws long, get_missing_size T ws)

-- ---- the verdict, whatever the rest of the tables is

module _ (t : Counts) (roots ws : List ℕ) (f : Result (Option ℕ) OutOfRange) (p : (T : Tables) → lookup_of f ≡ lookup t.roots 0 (of_words (sized t T) ws).false_roots) where
  abbrev With : Tables → Tables
  With T = rooted t roots T

  abbrev told : Tables → Option verdicts.Verdict
  told T = verdict_of (With T) (of_words (With T) ws)

  abbrev missing : Tables → sets.Lookup
  missing T = lookup t.atoms 0 (of_words (With T) ws).missing

  judged-by : (l : Result (Option ℕ) OutOfRange) → f ≡ l → (T : Tables) → judged (With T) (lookup_of l) (missing T) ≡ told T
  unfolding verdict_of
  judged-by l q T = ap (λ x. judged (With T) x (missing T)) (ap lookup_of (sym q) ∙ p (With T))

  pub not_model_lem : (k x : ℕ) → f ≡ Ok (Some k) → x ≡ get_or roots k 0 → (T : Tables) → cond (ltb x t.nodes) (Some (verdicts.not_model x)) None ≡ told T
  unfolding judged
  not_model_lem k x q r T = ap (λ y. cond (ltb y t.nodes) (Some (verdicts.not_model y)) None) r ∙ judged-by (Ok (Some k)) q T

  pub roots_astray : (x : OutOfRange) → f ≡ Err x → (T : Tables) → None ≡ told T
  unfolding judged
  roots_astray x q T = judged-by (Err x) q T

  module _ (model : f ≡ Ok None) (m : Result (Option ℕ) OutOfRange) (o : (T : Tables) → lookup_of m ≡ lookup t.atoms 0 (of_words (sized t T) ws).missing) where
    left_by : (l : Result (Option ℕ) OutOfRange) → m ≡ l → (T : Tables) → judged (With T) sets.empty (lookup_of l) ≡ told T
    left_by l q T = ap (λ x. judged (With T) sets.empty x) (ap lookup_of (sym q) ∙ o (With T)) ∙ judged-by (Ok None) model T

    pub residual_of_lem : (a : ℕ) → m ≡ Ok (Some a) → (T : Tables) → Some (verdicts.residual a) ≡ told T
    unfolding judged
    residual_of_lem a q T = left_by (Ok (Some a)) q T

    pub missing_astray : (x : OutOfRange) → m ≡ Err x → (T : Tables) → None ≡ told T
    unfolding judged
    missing_astray x q T = left_by (Err x) q T

    pub stable_of : m ≡ Ok None → (T : Tables) → Some verdicts.stable ≡ told T
    unfolding judged
    stable_of q T = left_by (Ok None) q T
