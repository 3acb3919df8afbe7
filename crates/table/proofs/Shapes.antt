use Rattle.std.proofs.Common.{◌≡◌, ℕ, ◌<◌, List, [], ◌∷◌, map, Bor, length, get_or, take, drop, Err, sym, refl, ap, ◌∙◌, arith}
use Rattle.table.specs.declared.fault.Fault.{Fault}
use Rattle.table.specs.declared.line.Kind.{Kind}
use Rattle.table.specs.Table.{move_of, head_of, kind_of, move_line}

-- other than four fields are no move
pub move_shape : {X : Type 0} (n k : ℕ) (f : X → List ℕ) (xs : List X) → (length xs ≡ 4 → ⊥) → move_of n k (map f xs) ≡ Err (Fault.Misshapen k)
move_shape n k f [] h = refl
move_shape n k f (a ∷ []) h = refl
move_shape n k f (a ∷ b ∷ []) h = refl
move_shape n k f (a ∷ b ∷ c ∷ []) h = refl
move_shape n k f (a ∷ b ∷ c ∷ d ∷ []) h = absurd (h refl)
move_shape n k f (a ∷ b ∷ c ∷ d ∷ e ∷ es) h = refl

-- other than two fields are no first line
pub head_shape : {X : Type 0} (k : ℕ) (f : X → List ℕ) (xs : List X) → (length xs ≡ 2 → ⊥) → head_of k (map f xs) ≡ Err (Fault.Misshapen k)
head_shape k f [] h = refl
head_shape k f (a ∷ []) h = refl
head_shape k f (a ∷ b ∷ []) h = absurd (h refl)
head_shape k f (a ∷ b ∷ c ∷ cs) h = refl

-- a list of so many elements is its elements
pub four_of : {X : Type 0} (xs : List X) (d : X) → length xs ≡ 4 → xs ≡ get_or xs 0 d ∷ get_or xs 1 d ∷ get_or xs 2 d ∷ get_or xs 3 d ∷ []
four_of [] d h = absurd (omega arith)
four_of (a ∷ []) d h = absurd (omega arith)
four_of (a ∷ b ∷ []) d h = absurd (omega arith)
four_of (a ∷ b ∷ c ∷ []) d h = absurd (omega arith)
four_of (a ∷ b ∷ c ∷ e ∷ []) d h = refl
four_of (a ∷ b ∷ c ∷ e ∷ f ∷ fs) d h = absurd (omega arith)

-- the same for two
pub two_of : {X : Type 0} (xs : List X) (d : X) → length xs ≡ 2 → xs ≡ get_or xs 0 d ∷ get_or xs 1 d ∷ []
two_of [] d h = absurd (omega arith)
two_of (a ∷ []) d h = absurd (omega arith)
two_of (a ∷ b ∷ []) d h = refl
two_of (a ∷ b ∷ c ∷ cs) d h = absurd (omega arith)

-- the same for three
pub three_of : {X : Type 0} (xs : List X) (d : X) → length xs ≡ 3 → xs ≡ get_or xs 0 d ∷ get_or xs 1 d ∷ get_or xs 2 d ∷ []
three_of [] d h = absurd (omega arith)
three_of (a ∷ xs) d h = ap (λ (ys : List _). a ∷ ys) (two_of xs d (omega arith))

-- the same for five
pub five_of : {X : Type 0} (xs : List X) (d : X) → length xs ≡ 5 → xs ≡ get_or xs 0 d ∷ get_or xs 1 d ∷ get_or xs 2 d ∷ get_or xs 3 d ∷ get_or xs 4 d ∷ []
five_of [] d h = absurd (omega arith)
five_of (a ∷ xs) d h = ap (λ (ys : List _). a ∷ ys) (four_of xs d (omega arith))

-- a field, or no bytes where there is none
abbrev pub field : List (Bor (List ℕ)) → ℕ → List ℕ
field fs i = (get_or fs i (record { ref_ptr = (0, 0); now = [] })).now

-- the four fields of a move
pub move_at : (n k : ℕ) (fs : List (Bor (List ℕ))) → length fs ≡ 4 → move_of n k (map (λ f. f.now) fs) ≡ move_of n k (field fs 0 ∷ field fs 1 ∷ field fs 2 ∷ field fs 3 ∷ [])
move_at n k fs h = ap (λ (ys : List (Bor (List ℕ))). move_of n k (map (λ f. f.now) ys)) (four_of fs _ h)

-- the two fields of a first line
pub head_at : (k : ℕ) (fs : List (Bor (List ℕ))) → length fs ≡ 2 → head_of k (map (λ f. f.now) fs) ≡ head_of k (field fs 0 ∷ field fs 1 ∷ [])
head_at k fs h = ap (λ (ys : List (Bor (List ℕ))). head_of k (map (λ f. f.now) ys)) (two_of fs _ h)

-- six fields are enough to tell
pub move_six : (n k : ℕ) (fs : List (List ℕ)) → move_of n k (take 5 fs) ≡ move_of n k fs
move_six n k [] = refl
move_six n k (a ∷ []) = refl
move_six n k (a ∷ b ∷ []) = refl
move_six n k (a ∷ b ∷ c ∷ []) = refl
move_six n k (a ∷ b ∷ c ∷ d ∷ []) = refl
move_six n k (a ∷ b ∷ c ∷ d ∷ e ∷ es) = refl

-- the same for a first line
pub head_six : (k : ℕ) (fs : List (List ℕ)) → head_of k (take 5 fs) ≡ head_of k fs
head_six k [] = refl
head_six k (a ∷ []) = refl
head_six k (a ∷ b ∷ []) = refl
head_six k (a ∷ b ∷ c ∷ cs) = refl

-- a line of the move kind is read by the fields after its first
pub move_line_by : (n k : ℕ) (fs : List (Bor (List ℕ))) (ps : List (List ℕ)) → map (λ f. f.now) fs ≡ take 6 ps → 0 < length fs → kind_of (field fs 0) ≡ Kind.Move → move_of n k (map (λ f. f.now) (drop 1 fs)) ≡ move_line n k ps
move_line_by n k [] ps e l h = absurd (omega arith)
move_line_by n k (x ∷ xs) [] e l h = absurd (cc)
move_line_by n k (x ∷ xs) (p ∷ ps) e l h =
    let a : x.now ≡ p = cc in
    let b : map (λ f. f.now) xs ≡ take 5 ps = cc in
    let m : kind_of p ≡ Kind.Move = sym (ap kind_of a) ∙ h in
    rw (b, m, move_six n k ps)
