-- What a lookup returns and leaves, as document 01's reply.
use Rattle.std.specs.Prelude.{ℕ, List, [], ◌≡◌, replicate, Result, Ok, Err}
use Rattle.format.specs.Blocks.{room_of}
use Rattle.format.specs.declared.Refusal.{Refusal}
use Rattle.format.specs.Walk.{answer_of, met_of, done}
use Rattle.format.specs.Lookup.{follow, locate_walk}
use Rattle.format.specs.Answers.{LookupReply, lookup_end}
use Rattle.superblock.specs.Superblock.{superblock_of}
use Rattle.superblock.specs.declared.Superblock.{Superblock}
use Rattle.path.specs.Form.{components_of}
use Rattle.lookup.specs.declared.lookup.Located.{Located}

-- "At lookup's end the list is all zeros and the block count 0."
abbrev pub reply_of : List ℕ → Result Located Refusal → LookupReply
reply_of ws (Ok p) = record { number = 0; met = 0; kind = p.kind; address = p.address; block_count = 0; list = ws }
reply_of ws (Err r) = record { number = answer_of r; met = met_of r; kind = 0; address = 0; block_count = 0; list = ws }

-- the path was followed in an opened image as the definition does; the list is still to be cleared
abbrev pub LocatedIs : List ℕ → List ℕ → ℕ → Superblock → Result Located Refusal → Type 0
LocatedIs im path lent s r =
    reply_of (replicate lent 0) r ≡
    lookup_end lent (follow im (superblock_of s) (room_of lent) locate_walk (done (record { kind = 4; address = 0 }) []) (components_of path) s.root)
