-- How long the arrays are that a program lends for a shelf. They are too long to be counted element by element. Assumes nothing.
use mathlib.Core.Path.{◌≡◌, sym}
use Prim.Native.Nat.{ℕ}
use lib.ListN.{length, replicate, length-replicate}

pub word_room_lem : 262144 ≡ length (replicate {A = ℕ} 262144 0)
word_room_lem = sym (length-replicate {A = ℕ} 262144 0)

pub byte_room_lem : 131072 ≡ length (replicate {A = ℕ} 131072 0)
byte_room_lem = sym (length-replicate {A = ℕ} 131072 0)

pub file_room : 1179673 ≡ length (replicate {A = ℕ} 1179673 0)
file_room = sym (length-replicate {A = ℕ} 1179673 0)
