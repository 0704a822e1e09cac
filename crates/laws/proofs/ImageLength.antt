-- The length of an image that can be opened fits 32 bits: counts of links need nothing else of the limit.
use Prim.Native.Nat.{ℕ, ◌^◌, ◌<◌}
use mathlib.Core.Bool.{true}
use mathlib.Core.Path.{◌≡◌}
use native.Mathlib.Omega.{arith}
use lib.Dec.{lit<}
use Rattle.format.specs.Limits.{image_least, image_most}
use Rattle.format.specs.Bytes.{in_range}
use Rattle.walk.proofs.Tests.{range-most}

most-small : image_most < 2 ^ 32
unfolding image_most
most-small = lit< tt

pub image-small : (n : ℕ) → in_range image_least image_most n ≡ true → n < 2 ^ 32
image-small n e = omega (arith, range-most image_least image_most n e, most-small)
