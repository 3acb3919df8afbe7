-- A relation of any kind that meets both clauses, by the machines that start at a pair of it.
use Rattle.std.proofs.Common.{ℕ, ◌<◌, T}
use Rattle.lts.specs.Systems.{Meets, Conforms, ReadyRefusal}
use Rattle.lts.specs.Machines.{Machine, system_of}
use Rattle.lts.specs.Conformance.{MachineConforms}
use Rattle.lts.specs.Claims.{MeetsClauses}
use Rattle.lts.proofs.Proper.{Proper}
use Rattle.lts.proofs.Claimed.{from_clauses}
use Rattle.lts.proofs.Largest.{machines_conform}
use Rattle.judge.specs.Promises.{standing_pairs}
use Rattle.judge.proofs.Standing.{standing_holds}

-- the machine with another start
abbrev from : Machine → ℕ → Machine
from M p = record { size = M.size; start = p; move = M.move }

-- it is as proper
from_proper : (M : Machine) (p : ℕ) → Proper M → p < M.size → Proper (from M p)
from_proper M p m h = record { some = m.some; start_in = h; from_in = m.from_in; label_in = m.label_in; to_in = m.to_in }

-- where it starts says nothing of what it refuses
restart : (M : Machine) (a b p y : ℕ) (X : ℕ → Type 0) → ReadyRefusal (system_of (from M a)) p X y → ReadyRefusal (system_of (from M b)) p X y
restart M a b p y X r = record {
  place = r.place;
  reaches = r.reaches;
  refuses = record { stable = r.refuses.stable; none = r.refuses.none };
  ready = r.ready;
}

module _ (M N : Machine) (m : Proper M) (n : Proper N) (R : ℕ → ℕ → Type 0) (c : MeetsClauses (system_of M) (system_of N) R) where
  meets : Meets (system_of M) (system_of N) R
  meets = from_clauses (system_of M) (system_of N) R c

  -- every pair of states that it holds stands
  pub any_holds : (p q : ℕ) → p < M.size → q < N.size → R p q → T (standing_pairs M N p q)
  any_holds p q a b r =
      let k : Conforms (system_of (from M p)) (system_of (from N q)) = record {
        by = R;
        meets = record {
          moves = meets.moves;
          refusals = λ x z t X y w. restart N N.start q z y X (meets.refusals x z t X y (restart M p M.start x y X w));
        };
        starts = r;
      } in
      let d : MachineConforms (from M p) (from N q) = machines_conform (from M p) (from N q) (from_proper M p m a) (from_proper N q n b) k in
      standing_holds M N m n d.by
      (record {
        moves = d.meets.moves;
        refusals = λ x z t X y w. restart N q N.start z y (λ l. T (X l)) (d.meets.refusals x z t X y (restart M M.start p x y (λ l. T (X l)) w));
      })
      p q a b d.starts
