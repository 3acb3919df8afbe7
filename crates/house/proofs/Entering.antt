-- A table that is kept.
use Rattle.std.proofs.Common.{◌≡◌, ℕ, ◌+◌, ◌-◌, ◌<◌, ◌≤◌, Bool, true, false, cond, ◌&&◌, leb, ltb, List, [], ◌∷◌, ◌++◌, map, length, take, drop, is_ok, Some, None, Ok, Err, Option, Result, sym, refl, ap, ◌∙◌, subst, subst₂, arith}
use Rattle.std.proofs.lemmas.List.{drop-take, take-take, take_at, map_push, length-take-le, length-drop, length_push, drop_at, get_or_append_left}
use Rattle.std.proofs.lemmas.Bool.{and_parts, and_from, ltb-true, ltb-false, lt-ltb, lt-leb, le-ltb, true≢false}
use Rattle.lts.specs.Machines.{Machine}
use Rattle.lts.specs.Layers.{restrict_machine, parallel_machine}
use Rattle.source.specs.declared.table.Move.{Move}
use Rattle.table.specs.Table.{Listing, summary_of, moves_of, in_room}
use Rattle.table.specs.declared.checked.Summary.{Summary}
use Rattle.table.specs.declared.fault.Fault.{Fault}
use Rattle.house.specs.declared.house.Entry.{Entry}
use Rattle.house.specs.declared.house.House.{House}
use Rattle.calls.specs.declared.seat.Pile.{Pile}
use Rattle.calls.specs.declared.seat.Seat.{Seat}
use Rattle.calls.specs.declared.seat.Seat.TheVariants.{Empty, Contract, Fitted}
use Rattle.calls.specs.Contents.{machine_of, machine_at, helped, pile_machine, places}
use Rattle.house.specs.Stored.{listing, listings, seat_in, helper_in, judged_yes, Within}
use Rattle.house.specs.Means.{means}
use Rattle.std.specs.List.{All, sum_by}
use Rattle.std.proofs.lemmas.List.Elements.{All-head, All-tail, All-push, All-weaker}
use Rattle.std.proofs.lemmas.List.Sums.{sum_by-cons, sum_by_push}
use Rattle.house.proofs.Tables.{tables_count}
use Rattle.calls.specs.declared.refusal.Refusal.{Refusal}
use Rattle.calls.specs.Calls.{enter_result}

-- what a summary tells of the listing
abbrev pub listed : Summary → List Move → Listing
listed s ms = record { states = s.states; start = s.start; moves = ms }

abbrev summed : Listing → Summary
summed t = record { states = t.states; start = t.start; moves = length t.moves }

-- what storing tells
ok_listing : (r : Result Listing Fault) → is_ok r ≡ true → (t : Listing) × (r ≡ Ok t)
ok_listing (Ok t) e = (t, refl)
ok_listing (Err f) e = absurd (true≢false (sym e))

pub found_err : (r : Result Listing Fault) (f : Fault) → Err f ≡ summary_of r → r ≡ Err f
found_err (Ok t) f e = absurd (let z : ◌≡◌ {A = ℕ} 0 1 = cc in omega arith)
found_err (Err g) f e = cc

pub room_ok : (room : ℕ) (r : Result Listing Fault) (s : Summary) → Ok s ≡ in_room room (summary_of r) →
    (r ≡ Ok (listed s (moves_of r))) × (length (moves_of r) ≡ s.moves) × (s.moves ≤ room)
room_ok room (Err f) s e = absurd (let z : ◌≡◌ {A = ℕ} 0 1 = cc in omega arith)
room_ok room (Ok t) s e = go (ltb room (length t.moves)) refl e
  where
    go : (b : Bool) → ltb room (length t.moves) ≡ b →
        ◌≡◌ {A = Result Summary Fault} (Ok s) (cond b (Err Fault.NoRoom) (Ok (summed t))) →
        ◌≡◌ {A = Result Listing Fault} (Ok t) (Ok (listed s t.moves)) × (length t.moves ≡ s.moves) × (s.moves ≤ room)
    go true i e = absurd (let z : ◌≡◌ {A = ℕ} 0 1 = cc in omega arith)
    go false i e =
        let k : s ≡ summed t = cc in (
          ap (λ (x : Summary). Ok (listed x t.moves)) (sym k),
          sym (ap (λ (x : Summary). x.moves) k),
          subst (λ (n : ℕ). n ≤ room) (sym (ap (λ (x : Summary). x.moves) k)) (ltb-false room (length t.moves) i),
        )

room_err : (room : ℕ) (t : Listing) (f : Fault) → Err f ≡ in_room room (summary_of (Ok t)) → (room < length t.moves) × (f ≡ Fault.NoRoom)
room_err room t f e = go (ltb room (length t.moves)) refl e
  where
    go : (b : Bool) → ltb room (length t.moves) ≡ b →
        ◌≡◌ {A = Result Summary Fault} (Err f) (cond b (Err Fault.NoRoom) (Ok (summed t))) →
        (room < length t.moves) × (f ≡ Fault.NoRoom)
    go true i e = (ltb-true room (length t.moves) i, cc)
    go false i e = absurd (let z : ◌≡◌ {A = ℕ} 0 1 = cc in omega arith)

-- the places in use are as they were, and the new moves follow
module _ (ms ms' new : List Move) (used : ℕ) (within : used ≤ length ms)
    (stored : ms' ≡ take used ms ++ (new ++ drop (length new) (drop used ms))) where
  kept : take used ms' ≡ take used ms
  kept = ap (take used) stored ∙ take_at (take used ms) (new ++ drop (length new) (drop used ms)) used (length-take-le used ms within)

  new_part : take (length new) (drop used ms') ≡ new
  new_part =
      ap (λ (xs : List Move). take (length new) (drop used xs)) stored
      ∙ ap (take (length new)) (drop_at (take used ms) (new ++ drop (length new) (drop used ms)) used (length-take-le used ms within))
      ∙ take_at new (drop (length new) (drop used ms)) (length new) refl

  part_kept : (e : Entry) → e.first + e.count ≤ used → take e.count (drop e.first ms') ≡ take e.count (drop e.first ms)
  part_kept e l =
      let f : ℕ = e.first in
      let c : ℕ = e.count in
      sym (drop-take f c ms')
      ∙ ap (drop f) (sym (take-take (f + c) used ms' l) ∙ ap (take (f + c)) kept ∙ take-take (f + c) used ms l)
      ∙ drop-take f c ms

  listings_kept : (es : List Entry) → All (λ e. e.first + e.count ≤ used) es → map (listing ms') es ≡ map (listing ms) es
  listings_kept [] h = refl
  listings_kept (e ∷ es) h =
      let p : listing ms' e ≡ listing ms e =
      ap (λ (xs : List Move). record { states = e.states; start = e.start; moves = xs }) (part_kept e (All-head (λ x. x.first + x.count ≤ used) e es h)) in
      ap (λ (t : Listing). t ∷ map (listing ms') es) p ∙ ap (λ (ts : List Listing). listing ms e ∷ ts) (listings_kept es (All-tail (λ x. x.first + x.count ≤ used) e es h))

  its_listing : (e : Entry) → e.first ≡ used → e.count ≡ length new → listing ms' e ≡ record { states = e.states; start = e.start; moves = new }
  its_listing e f n =
      ap (λ (xs : List Move). record { states = e.states; start = e.start; moves = xs })
      (rw (f, n) new_part)

places_are : (ms : List Move) (used : ℕ) → used ≤ length ms → (es : List Entry) → All (λ e. e.first + e.count ≤ used) es →
    places (map (listing ms) es) ≡ sum_by (λ e. e.count) es
places_are ms used l [] h = refl
places_are ms used l (e ∷ es) h =
    let k : e.first + e.count ≤ used = All-head (λ x. x.first + x.count ≤ used) e es h in
    let z : e.count ≤ length (drop e.first ms) = rw length-drop (omega arith) in
    sum_by-cons (λ t. length t.moves) (listing ms e) (map (listing ms) es) ∙ ap (λ (n : ℕ). n + places (map (listing ms) es)) (length-take-le e.count (drop e.first ms) z)
    ∙ ap (λ (n : ℕ). e.count + n) (places_are ms used l es (All-tail (λ x. x.first + x.count ≤ used) e es h)) ∙ sym (sum_by-cons (λ x. x.count) e es)

places_used : (h : House) → places (means h).tables ≡ h.used
places_used h =
    let l : h.used ≤ length h.moves = omega arith in
    places_are h.moves h.used l h.entries.items h.within.0 ∙ h.within.2

-- the seats are in order with one table more
module _ (ts : List Listing) (t : Listing) where
  machine_more : (c : ℕ) → c < length ts → machine_at (ts ++ (t ∷ [])) c ≡ machine_at ts c
  machine_more c l = ap machine_of (get_or_append_left ts (t ∷ []) (record { states = 0; start = 0; moves = [] }) c l)

  helped_more : (m : ℕ) (h : Option ℕ) → m < length ts → helper_in (length ts) h ≡ true → helped (ts ++ (t ∷ [])) m h ≡ helped ts m h
  helped_more m None l k = machine_more m l
  helped_more m (Some h) l k =
      ap (λ (M : Machine). parallel_machine M (machine_at (ts ++ (t ∷ [])) h)) (machine_more m l)
      ∙ ap (λ (M : Machine). parallel_machine (machine_at ts m) M) (machine_more h (ltb-true h (length ts) k))

  pile_more : (p : Pile) → p.table < length ts → helper_in (length ts) p.helper ≡ true → pile_machine (ts ++ (t ∷ [])) p ≡ pile_machine ts p
  pile_more p l k = ap (restrict_machine p.hidden.0) (helped_more p.table p.helper l k)

  below : (c : ℕ) → ltb c (length ts) ≡ true → ltb c (length (ts ++ (t ∷ []))) ≡ true
  below c e =
      let l : c < length ts = ltb-true c (length ts) e in
      let n = length_push ts t in
      let k : c < length (ts ++ (t ∷ [])) = omega arith in
      lt-ltb c (length (ts ++ (t ∷ []))) k

  helper_more : (h : Option ℕ) → helper_in (length ts) h ≡ true → helper_in (length (ts ++ (t ∷ []))) h ≡ true
  helper_more None e = refl
  helper_more (Some h) e = below h e

  seat_more : (x : Seat) → seat_in ts x ≡ true → seat_in (ts ++ (t ∷ [])) x ≡ true
  seat_more Empty e = refl
  seat_more (Contract c) e = below c e
  seat_more (Fitted c p) e =
      let n = length ts in
      let y = judged_yes (pile_machine ts p) (machine_at ts c) in
      let a = and_parts (ltb c n) (ltb p.table n && (helper_in n p.helper && y)) e in
      let b = and_parts (ltb p.table n) (helper_in n p.helper && y) a.1 in
      let d = and_parts (helper_in n p.helper) y b.1 in
      let i : pile_machine ts p ≡ pile_machine (ts ++ (t ∷ [])) p = sym (pile_more p (ltb-true p.table n b.0) d.0) in
      let j : machine_at ts c ≡ machine_at (ts ++ (t ∷ [])) c = sym (machine_more c (ltb-true c n a.0)) in
      and_from _ _ (below c a.0) (and_from _ _ (below p.table b.0) (and_from _ _ (helper_more p.helper d.0)
      (subst₂ (λ (M N : Machine). judged_yes M N ≡ true) i j d.1)))

-- the entry of what is kept
abbrev pub entry_of : ℕ → Summary → Entry
entry_of used s = record { states = s.states; start = s.start; first = used; count = s.moves }

module _ (h : House) (ms' new : List Move) (s : Summary) (es : List Entry) (many : length new ≡ s.moves)
    (pushed : es ≡ h.entries.items ++ entry_of h.used s ∷ [])
    (stored : ms' ≡ take h.used h.moves ++ (new ++ drop (length new) (drop h.used h.moves))) where
  long : h.used ≤ length h.moves
  long = omega arith

  pub tables_after : listings ms' es ≡ (means h).tables ++ (listed s new ∷ [])
  tables_after =
      ap (map (listing ms')) pushed ∙ map_push (listing ms') h.entries.items (entry_of h.used s)
      ∙ ap (λ (ts : List Listing). ts ++ listing ms' (entry_of h.used s) ∷ [])
      (listings_kept h.moves ms' new h.used long stored h.entries.items h.within.0)
      ∙ ap (λ (t : Listing). (means h).tables ++ (t ∷ [])) (its_listing h.moves ms' new h.used long stored (entry_of h.used s) refl (sym many))

  pub within_after : Within ms' (h.used + s.moves) es h.seats
  within_after = (
    subst (λ (xs : List Entry). All (λ e. e.first + e.count ≤ h.used + s.moves) xs) (sym pushed)
        (All-push (λ e. e.first + e.count ≤ h.used + s.moves) h.entries.items (entry_of h.used s)
        (All-weaker (λ e. e.first + e.count ≤ h.used) (λ e. e.first + e.count ≤ h.used + s.moves) (λ e l. omega arith) h.entries.items h.within.0) (omega arith)),
    subst (λ (ts : List Listing). All (λ x. seat_in ts x ≡ true) h.seats) (sym tables_after)
        (All-weaker (λ x. seat_in (means h).tables x ≡ true) (λ x. seat_in ((means h).tables ++ (listed s new ∷ [])) x ≡ true) (seat_more (means h).tables (listed s new)) h.seats h.within.1),
    ap (sum_by (λ e. e.count)) pushed ∙ sum_by_push _ h.entries.items (entry_of h.used s) ∙ ap (λ (n : ℕ). n + s.moves) h.within.2,
  )

-- there is a place for the table, and room for its moves or none
module _ (h : House) (r : Result Listing Fault) (places_left : length h.entries.items < 12) where
  place : leb 12 (length (means h).tables) ≡ false
  place = lt-leb 12 (length (means h).tables) (omega (arith, tables_count h))

  pub enter_kept : (s : Summary) → Ok s ≡ in_room (length h.moves - h.used) (summary_of r) → Ok (length h.entries.items) ≡ enter_result (means h) r
  enter_kept s e =
      let k = room_ok (length h.moves - h.used) r s e in
      let m : ltb 1024 (places (means h).tables + length (moves_of r)) ≡ false =
      le-ltb 1024 (places (means h).tables + length (moves_of r)) (omega (arith, places_used h, k.1, k.2)) in
      let b : Ok (length (means h).tables) ≡ enter_result (means h) (Ok (listed s (moves_of r))) = rw (place, m) in
      ap Ok (sym (tables_count h)) ∙ b ∙ ap (enter_result (means h)) (sym k.0)

  pub enter_no_room : is_ok r ≡ true → (f : Fault) → Err f ≡ in_room (length h.moves - h.used) (summary_of r) → Err (Refusal.Text f) ≡ enter_result (means h) r
  enter_no_room o f e =
      let t = ok_listing r o in
      let k = room_err (length h.moves - h.used) t.0 f (e ∙ ap (λ (x : Result Listing Fault). in_room (length h.moves - h.used) (summary_of x)) t.1) in
      let m : ltb 1024 (places (means h).tables + length t.0.moves) ≡ true =
      lt-ltb 1024 (places (means h).tables + length t.0.moves) (omega (arith, places_used h, k.0)) in
      let b : Err (Refusal.Text Fault.NoRoom) ≡ enter_result (means h) (Ok t.0) = rw (place, m) in
      ap (λ (x : Fault). Err (Refusal.Text x)) k.1 ∙ b ∙ ap (enter_result (means h)) (sym t.1)
