-- The calls that a program hands in, and what it is answered.
use Rattle.std.specs.Prelude.{ℕ, List, [], ◌∷◌, map, reverse}
use Rattle.std.specs.Borrow.{Bor}
use Rattle.calls.specs.declared.request.Request.{Request}
use Rattle.calls.specs.Calls.{Call, enter, seat, fit, unfit, clear}

-- the call, where `bytes` are those of its text
abbrev pub call_by : {T : Type 0} → (T → List ℕ) → Request T → Call
call_by bytes (Request.Enter text) = enter (bytes text)
call_by bytes (Request.Seat s c) = seat s c
call_by bytes (Request.Fit s p room) = fit s p room
call_by bytes (Request.Unfit s) = unfit s
call_by bytes (Request.Clear s) = clear s

abbrev pub call_of : Request (Bor (List ℕ)) → Call
call_of r = call_by (λ text. text.now) r

-- the last call first
abbrev pub calls_of : List (Request (Bor (List ℕ))) → List Call
calls_of requests = reverse (map call_of requests)

-- the first places written over, as far as there are places
abbrev pub written_over : {X : Type 0} → List X → List X → List X
written_over [] was = was
written_over (x ∷ xs) [] = []
written_over (x ∷ xs) (y ∷ ys) = x ∷ written_over xs ys
