-- Ranks that a round writes.
use Rattle.std.proofs.Common.{◌≡◌, ℕ, ◌+◌, ◌*◌, ◌/◌, ◌%◌, ◌<◌, Bool, true, false, cond, ◌⊎◌, List, length, set, sym, refl, ap, ◌∙◌, inl, inr, ⊎_elim, arith, length-set}
use Rattle.std.proofs.lemmas.Grind.{elements}
use Rattle.std.proofs.lemmas.Nat.{div-mul-add, mod-mul-add}
use Rattle.std.proofs.lemmas.Bool.{cases_eq, cond-true}
use Rattle.clauses.specs.Ranks.{rank_at}
use Rattle.ranks.specs.Marks.{Marked}

-- two pairs have two numbers
pair_apart : (m a b p q : ℕ) → b < m → q < m → ((a ≡ p) × (b ≡ q) → ⊥) → a * m + b ≡ p * m + q → ⊥
pair_apart m a b p q h l d e =
    d (sym (div-mul-add a m b h) ∙ ap (λ (x : ℕ). x / m) e ∙ div-mul-add p m q l, sym (mod-mul-add a m b h) ∙ ap (λ (x : ℕ). x % m) e ∙ mod-mul-add p m q l)

-- the same pair, or another
cases_pair : (a p b q : ℕ) → ((a ≡ p) × (b ≡ q)) ⊎ ((a ≡ p) × (b ≡ q) → ⊥)
cases_pair a p b q = ⊎_elim
    (λ (e : a ≡ p). ⊎_elim (λ (f : b ≡ q). inl (e, f)) (λ (f : b ≡ q → ⊥). inr (λ z. f z.1)) (cases_eq b q))
    (λ (e : a ≡ p → ⊥). inr (λ z. e z.0))
    (cases_eq a p)

-- a rank that is written
abbrev pub put : List ℕ → ℕ → ℕ → List ℕ
put w i k = set (set w (2 * i) (k % 256)) (2 * i + 1) (k / 256)

-- is read back
put_same : (w : List ℕ) (i k : ℕ) → 2 * i + 1 < length w → rank_at (put w i k) i ≡ k
put_same w i k h = grind (arith, elements)

-- and changes no other
put_other : (w : List ℕ) (i j k : ℕ) → (j ≡ i → ⊥) → rank_at (put w i k) j ≡ rank_at w j
put_other w i j k d = grind (arith, elements)

module _ (m k : ℕ) (was : List ℕ) where
  -- nothing is hit yet
  pub mark_none : (hit : ℕ → ℕ → Bool) → ((a b : ℕ) → b < m → hit a b ≡ false) → Marked m k hit was was
  mark_none hit f = record { len = refl; ranks = λ a b h. sym (ap (λ (x : Bool). cond x k (rank_at was (a * m + b))) (f a b h)) }

  module _ (hit more : ℕ → ℕ → Bool) (w : List ℕ) (f : Marked m k hit was w) where
    -- the same pairs
    pub mark_same : ((a b : ℕ) → b < m → more a b ≡ hit a b) → Marked m k more was w
    mark_same s = record {
      len = f.len;
      ranks = λ a b h. f.ranks a b h ∙ ap (λ (x : Bool). cond x k (rank_at was (a * m + b))) (sym (s a b h));
    }

    -- one pair more
    pub mark_more : (p q : ℕ) → q < m → 2 * (p * m + q) + 1 < length w → more p q ≡ true →
        ((a b : ℕ) → b < m → ((a ≡ p) × (b ≡ q) → ⊥) → more a b ≡ hit a b) → Marked m k more was (put w (p * m + q) k)
    mark_more p q l room here s =
        let i = p * m + q in
        record {
          len = length-set _ _ _ ∙ length-set _ _ _ ∙ f.len;
          ranks = λ a b h.
              ⊎_elim
              (λ (e : (a ≡ p) × (b ≡ q)).
              let z : a * m + b ≡ i = ap (λ (x : ℕ). x * m + b) e.0 ∙ ap (λ (x : ℕ). p * m + x) e.1 in
              ap (rank_at (put w i k)) z ∙ put_same w i k room
              ∙ sym (cond-true (more a b) k (rank_at was (a * m + b)) (ap (λ (x : ℕ). more x b) e.0 ∙ ap (more p) e.1 ∙ here)))
              (λ (e : (a ≡ p) × (b ≡ q) → ⊥).
              put_other w i (a * m + b) k (pair_apart m a b p q h l e) ∙ f.ranks a b h ∙ ap (λ (x : Bool). cond x k (rank_at was (a * m + b))) (sym (s a b h e)))
              (cases_pair a p b q);
        }

-- what is marked in two steps
pub mark_both : (m k : ℕ) (one two all : ℕ → ℕ → Bool) (was mid w : List ℕ) → Marked m k one was mid → Marked m k two mid w →
    ((a b : ℕ) → b < m → (x : ℕ) → cond (two a b) k (cond (one a b) k x) ≡ cond (all a b) k x) → Marked m k all was w
mark_both m k one two all was mid w f g s = record {
  len = g.len ∙ f.len;
  ranks = λ a b h. g.ranks a b h ∙ ap (λ (x : ℕ). cond (two a b) k x) (f.ranks a b h) ∙ s a b h (rank_at was (a * m + b));
}
