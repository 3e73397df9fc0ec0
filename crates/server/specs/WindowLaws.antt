-- How often a server ran in a window cut into periods.
use Rattle.std.specs.Prelude.{ℕ, zero, suc, ◌+◌, ◌-◌, ◌*◌, ◌≤◌}
use Rattle.std.proofs.Common.{suc-mul, zero-mul, arith}
use Rattle.server.specs.Histories.{History, runs}
use Rattle.server.specs.Rounding.{ceil_div}
use Rattle.server.specs.HistoryLaws.{runs_split, runs_le, runs_within}
use Rattle.server.specs.RoundingLaws.{ceil_div_reaches}

-- at most q in each p ticks: at most k times q in k times p
module _ (h : History) (p q : ℕ) (each : (s : ℕ) → runs h s p ≤ q) where
  runs_pieces : (k s n : ℕ) → n ≤ k * p → runs h s n ≤ k * q
  runs_pieces zero s n le = omega (arith, runs_le h s n, zero-mul p)
  runs_pieces (suc k) s n le =
      let rest = runs_pieces k (s + p) (n - p) (omega (arith, suc-mul k p)) in
      omega (arith, runs_within h s (p + (n - p)) s n (omega arith) (omega arith), runs_split h s p (n - p), each s, suc-mul k q)

  pub runs_periods : 1 ≤ p → (s n : ℕ) → runs h s n ≤ ceil_div n p * q
  runs_periods some s n = runs_pieces (ceil_div n p) s n (ceil_div_reaches n p some).enough
