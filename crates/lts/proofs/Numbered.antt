-- A layer over a machine behaves as the same layer over its system.
use Rattle.std.proofs.Common.{◌≡◌, ℕ, zero, ◌+◌, ◌*◌, ◌/◌, ◌%◌, ◌<◌, not, ◌&&◌, ◌||◌, T, eqb, ltb, List, sym, refl, ap, ◌∙◌, subst, subst₂, inl, inr, mod-lt, mul_comm, div-lt_iff_lt-mul, div-add-mod', arith, eqb→eq, ltb→lt, lt→ltb}
use lib.Arith.{digits_div, digits_mod}
use lib.Dec.{eqb_refl}
use Rattle.std.proofs.lemmas.Nat.{mul-add-lt}
use Rattle.std.proofs.lemmas.Bool.{cond-false, ne_eqb}
use Rattle.lts.specs.Labels.{complement, name_of, member}
use Rattle.lts.specs.Systems.{Lts, stay, step, TauReaches, Conforms}
use Rattle.lts.specs.Operators.{restrict, renamed, relabel, Joint, left, right, sync, parallel}
use Rattle.lts.specs.Machines.{Machine, Fits, system_of}
use Rattle.lts.specs.Layers.{restricted, restrict_machine, by_list, relabelled_move, relabel_machine, synced, joint_move, parallel_size, parallel_move, parallel_machine}
use Rattle.lts.specs.Soundness.{parallel_fits}
use Rattle.lts.proofs.Proper.{Proper}
use Rattle.lts.proofs.Tests.{Tells, both, both_0, both_1, either, or_0, or_1, tells_some, tells_and, tells_not, tells_ltb, tells_eqb, tells_self}

-- a relation by which each move of the one is one of the other, both ways
pub record Bisimilar (S U : Lts) : Type 1 where
  pub by : S.state → U.state → Type 0
  pub forth : (s t : S.state) (x : U.state) (l : ℕ) → by s x → S.move s l t → (y : U.state) × U.move x l y × by t y
  pub back : (s : S.state) (x y : U.state) (l : ℕ) → by s x → U.move x l y → (t : S.state) × S.move s l t × by t y
  pub starts : by S.start U.start

abbrev turned : {S U : Lts} → Bisimilar S U → Bisimilar U S
turned b = record {
  by = λ x s. b.by s x;
  forth = λ x y s l r m. b.back s x y l r m;
  back = λ x s t l r m. b.forth s t x l r m;
  starts = b.starts;
}

module _ (S U : Lts) (b : Bisimilar S U) where
  reaches_forth : {s t : S.state} → TauReaches S s t → (x : U.state) → b.by s x → (y : U.state) × TauReaches U x y × b.by t y
  reaches_forth stay x r = (x, stay, r)
  reaches_forth (step {p = s} {t = t} m d) x r =
      let a = b.forth s t x 64 r m in
      let c = reaches_forth d a.0 a.2 in
      (c.0, step a.1 c.1, c.2)

  pub bisimilar_conforms : Conforms S U
  bisimilar_conforms = record {
    by = b.by;
    meets = record {
      moves = λ p q r l v p' y.
          let a = reaches_forth y.1 q r in
          let c = b.forth y.0 p' a.0 l a.2 y.2 in
          (c.0, (a.0, a.1, c.1), c.2);
      refusals = λ p q r X y k.
          let a = reaches_forth k.reaches q r in
          record {
            place = a.0;
            reaches = a.1;
            refuses = record {
              stable = λ t m. let c = b.back k.place a.0 t 64 a.2 m in k.refuses.stable c.0 c.1;
              none = λ l v m x. let c = b.back k.place a.0 m.0 l a.2 m.1 in k.refuses.none l v (c.0, c.1) x;
            };
            ready = λ v. let m = k.ready v in let f = b.forth k.place m.0 a.0 y a.2 m.1 in (f.0, f.1);
          };
    };
    starts = b.starts;
  }

pub bisimilar_back : (S U : Lts) → Bisimilar S U → Conforms U S
bisimilar_back S U b = bisimilar_conforms U S (turned b)

-- systems with the same states of which each move of the one is one of the other
same_moves : (P : Lts) (move : P.state → ℕ → P.state → Type 0) →
    ((p : P.state) (l : ℕ) (q : P.state) → P.move p l q → move p l q) →
    ((p : P.state) (l : ℕ) (q : P.state) → move p l q → P.move p l q) →
    Bisimilar P (record { state = P.state; start = P.start; move = move })
same_moves P move to of = record {
  by = λ p q. (p ≡ q);
  forth = λ s t x l r m. (t, subst (λ (i : P.state). move i l t) r (to s l t m), refl);
  back = λ s x y l r m. (y, subst (λ (i : P.state). P.move i l y) (sym r) (of x l y m), refl);
  starts = refl;
}

pub restricted_alike : (names : ℕ) (M : Machine) → Bisimilar (restrict (member names) (system_of M)) (system_of (restrict_machine names M))
restricted_alike names M = same_moves (restrict (member names) (system_of M)) (system_of (restrict_machine names M)).move
    (λ p l q m. both (not (restricted names l)) (M.move p l q) ((kept l).of (λ h. m.1 h.0 h.1)) m.0)
    (λ p l q m. (both_1 (not (restricted names l)) (M.move p l q) m, λ v w. (kept l).to (both_0 (not (restricted names l)) (M.move p l q) m) (v, w)))
  where
    kept : (l : ℕ) → Tells (not (restricted names l)) ((l < 64) × T (member names (name_of l)) → ⊥)
    kept l = tells_not (tells_and (tells_ltb l 64) (tells_self (member names (name_of l))))

pub relabelled_alike : (map : List ℕ) (M : Machine) → Proper M → Bisimilar (relabel (by_list map) (system_of M)) (system_of (relabel_machine map M))
unfolding relabelled_move
relabelled_alike map M s = same_moves (relabel (by_list map) (system_of M)) (system_of (relabel_machine map M)).move
    (λ p l q m. (tells_relabelled p l q).of (m.0, (let b = s.label_in p m.0 q m.1 in omega arith), (m.2, m.1)))
    (λ p l q m. let r = (tells_relabelled p l q).to m in (r.0, r.2.1, r.2.0))
  where
    tells_relabelled : (p l q : ℕ) → Tells (relabelled_move map M p l q) ((k : ℕ) × (k < 65) × ((renamed (by_list map) k ≡ l) × T (M.move p k q)))
    tells_relabelled p l q = tells_some 65 _ (λ k. (renamed (by_list map) k ≡ l) × T (M.move p k q))
        (λ k _. tells_and (tells_eqb (renamed (by_list map) k) l) (tells_self (M.move p k q)))

-- pairs as numbers
module _ (L R : Machine) (sl : Proper L) (sr : Proper R) (fits : parallel_size L R ≡ L.size * R.size) where
  code_below : (p q : ℕ) → p < L.size → q < R.size → p * R.size + q < parallel_size L R
  code_below p q a b = rw (fits, mul_comm L.size R.size) (mul-add-lt p R.size q L.size a b)

  move_of : (p q l p' q' : ℕ) → p < L.size → q < R.size → p' < L.size → q' < R.size →
      T (joint_move L R p q l p' q') → T (parallel_move L R (p * R.size + q) l (p' * R.size + q'))
  move_of p q l p' q' a b c d h =
      let m : ℕ = R.size in
      let n : ℕ = parallel_size L R in
      both (ltb (p * m + q) n && ltb (p' * m + q') n) _
      (both (ltb (p * m + q) n) (ltb (p' * m + q') n) (lt→ltb _ _ (code_below p q a b)) (lt→ltb _ _ (code_below p' q' c d)))
      (subst₂ (λ (i j : ℕ). T (joint_move L R i j l ((p' * m + q') / m) ((p' * m + q') % m)))
      (sym (digits_div p b)) (sym (digits_mod p b))
      (subst₂ (λ (i j : ℕ). T (joint_move L R p q l i j)) (sym (digits_div p' d)) (sym (digits_mod p' d)) h))

  Pair : (parallel (system_of L) (system_of R)).state → ℕ → Type 0
  Pair s x = (s.a < L.size) × (s.b < R.size) × (x ≡ s.a * R.size + s.b)

  tells_synced : (p q p' q' : ℕ) → Tells (synced L R p q p' q') ((k : ℕ) × (k < 64) × (T (L.move p k p') × T (R.move q (complement k) q')))
  unfolding synced
  tells_synced p q p' q' = tells_some 64 _ (λ k. T (L.move p k p') × T (R.move q (complement k) q'))
      (λ k _. tells_and (tells_self (L.move p k p')) (tells_self (R.move q (complement k) q')))

  joint_of : (s t : (parallel (system_of L) (system_of R)).state) (l : ℕ) → Joint (system_of L) (system_of R) s t l →
      s.a < L.size → s.b < R.size → (t.a < L.size) × (t.b < R.size) × T (joint_move L R s.a s.b l t.a t.b)
  joint_of s t l (left m e) i j = (
    sl.to_in s.a l t.a m,
    subst (λ (k : ℕ). k < R.size) e j,
    or_0 (eqb s.b t.b && L.move s.a l t.a) _
        (both (eqb s.b t.b) (L.move s.a l t.a) (subst (λ (k : ℕ). T (eqb s.b k)) e (eqb_refl s.b)) m),
  )
  joint_of s t l (right m e) i j = (
    subst (λ (k : ℕ). k < L.size) e i,
    sr.to_in s.b l t.b m,
    or_1 (eqb s.b t.b && L.move s.a l t.a) _
        (or_0 (eqb s.a t.a && R.move s.b l t.b) _
        (both (eqb s.a t.a) (R.move s.b l t.b) (subst (λ (k : ℕ). T (eqb s.a k)) e (eqb_refl s.a)) m)),
  )
  joint_of s t l (sync e k v m n) i j = (
    sl.to_in s.a k t.a m,
    sr.to_in s.b (complement k) t.b n,
    or_1 (eqb s.b t.b && L.move s.a l t.a) _
        (or_1 (eqb s.a t.a && R.move s.b l t.b) _
        (both (eqb l 64) (synced L R s.a s.b t.a t.b) (subst (λ (i : ℕ). T (eqb i 64)) (sym e) tt)
        ((tells_synced s.a s.b t.a t.b).of (k, v, (m, n))))),
  )

  joint_back : (p q l p' q' : ℕ) → T (joint_move L R p q l p' q') → Joint (system_of L) (system_of R) (record { a = p; b = q }) (record { a = p'; b = q' }) l
  joint_back p q l p' q' h =
      elim (either (eqb q q' && L.move p l p') ((eqb p p' && R.move q l q') || (eqb l 64 && synced L R p q p' q')) h) [
        | inl x ↦ left (both_1 (eqb q q') (L.move p l p') x) (eqb→eq q q' (both_0 (eqb q q') (L.move p l p') x))
        | inr y ↦ elim (either (eqb p p' && R.move q l q') (eqb l 64 && synced L R p q p' q') y) [
          | inl x ↦ right (both_1 (eqb p p') (R.move q l q') x) (eqb→eq p p' (both_0 (eqb p p') (R.move q l q') x))
          | inr z ↦ (let w = (tells_synced p q p' q').to (both_1 (eqb l 64) (synced L R p q p' q') z) in
              sync (eqb→eq l 64 (both_0 (eqb l 64) (synced L R p q p' q') z)) w.0 w.1 w.2.0 w.2.1)
        ]
      ]

  forth : (s t : (parallel (system_of L) (system_of R)).state) (x l : ℕ) → Pair s x → Joint (system_of L) (system_of R) s t l →
      (y : ℕ) × T (parallel_move L R x l y) × Pair t y
  unfolding Pair
  forth s t x l r m =
      let h = joint_of s t l m r.0 r.1 in (
        t.a * R.size + t.b,
        subst (λ (i : ℕ). T (parallel_move L R i l (t.a * R.size + t.b))) (sym r.2)
            (move_of s.a s.b l t.a t.b r.0 r.1 h.0 h.1 h.2),
        (h.0, h.1, refl),
      )

  back : (s : (parallel (system_of L) (system_of R)).state) (x y l : ℕ) → Pair s x → T (parallel_move L R x l y) →
      (t : (parallel (system_of L) (system_of R)).state) × Joint (system_of L) (system_of R) s t l × Pair t y
  unfolding Pair
  back s x y l r m =
      let k : ℕ = R.size in
      let n : ℕ = parallel_size L R in
      let h = both_1 (ltb x n && ltb y n) (joint_move L R (x / k) (x % k) l (y / k) (y % k)) m in
      let below : y < n = ltb→lt y n (both_1 (ltb x n) (ltb y n) (both_0 (ltb x n && ltb y n) (joint_move L R (x / k) (x % k) l (y / k) (y % k)) m)) in
      let iny : y < L.size * R.size = subst (λ (i : ℕ). y < i) fits below in
      let e : x / k ≡ s.a = ap (λ (i : ℕ). i / k) r.2 ∙ digits_div s.a r.1 in
      let f : x % k ≡ s.b = ap (λ (i : ℕ). i % k) r.2 ∙ digits_mod s.a r.1 in
      let h' : T (joint_move L R s.a s.b l (y / k) (y % k)) = subst₂ (λ (i j : ℕ). T (joint_move L R i j l (y / k) (y % k))) e f h in
      let pos : zero < k = omega (arith, sr.some) in (
        record { a = y / k; b = y % k },
        joint_back s.a s.b l (y / k) (y % k) h',
        ((div-lt_iff_lt-mul {k = k} {x = y} {y = L.size} pos).1 iny, mod-lt y pos, sym (div-add-mod' y k)),
      )

  pub paired_alike : (parallel_size L R ≡ 0 → ⊥) → Bisimilar (parallel (system_of L) (system_of R)) (system_of (parallel_machine L R))
  unfolding Pair
  paired_alike some = record {
    by = Pair;
    forth = forth;
    back = back;
    starts = (sl.start_in, sr.start_in, cond-false (eqb (parallel_size L R) 0) 0 (L.start * R.size + R.start) (ne_eqb (parallel_size L R) 0 some));
  }

-- two machines in parallel that fit
pub parallel_alike : (L R : Machine) → Proper L → Proper R → Fits (parallel_machine L R) →
    Bisimilar (parallel (system_of L) (system_of R)) (system_of (parallel_machine L R))
parallel_alike L R sl sr f =
    let some : parallel_size L R ≡ 0 → ⊥ = λ e. omega arith in
    paired_alike L R sl sr (parallel_fits L R some) some
