-- How long the arrays are that hold the lists. They are too long to be counted element by element. Assumes nothing.
use mathlib.Core.Path.{◌≡◌, sym}
use Prim.Native.Nat.{ℕ}
use lib.ListN.{length, replicate, length-replicate}

pub cases_room : 600001 ≡ length (replicate {A = ℕ} 600001 0)
cases_room = sym (length-replicate {A = ℕ} 600001 0)

pub answers_room : 200001 ≡ length (replicate {A = ℕ} 200001 0)
answers_room = sym (length-replicate {A = ℕ} 200001 0)
