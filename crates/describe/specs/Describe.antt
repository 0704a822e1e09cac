-- What a description returns and leaves, as document 01's reply.
use Rattle.std.specs.Prelude.{ℕ, List, replicate, Result, Ok, Err}
use Rattle.format.specs.Limits.{rank_most}
use Rattle.format.specs.declared.Refusal.{Refusal}
use Rattle.format.specs.Walk.{answer_of, met_of}
use Rattle.format.specs.Answers.{DescribeReply}
use Rattle.describe.specs.declared.Description.{Description}

-- how many blocks are handed over: none with a refusal
abbrev pub blocks_described : Result Description Refusal → ℕ
blocks_described (Ok d) = d.block_count
blocks_described (Err r) = 0

-- the reply of document 01, by what was returned and left
abbrev pub reply_of : List ℕ → Result Description Refusal → DescribeReply
reply_of ws (Ok d) = record {
  number = 0;
  met = 0;
  block_count = d.block_count;
  rank = d.rank;
  sizes = d.sizes;
  maxima = d.maxima;
  class = d.class;
  version = d.version;
  bits = d.bits;
  size = d.size;
  shared = d.shared;
  layout_class = d.layout_class;
  data_address = d.data_address;
  data_size = d.data_size;
  list = ws;
}
reply_of ws (Err r) = record {
  number = answer_of r;
  met = met_of r;
  block_count = 0;
  rank = 0;
  sizes = replicate rank_most 0;
  maxima = replicate rank_most 0;
  class = 0;
  version = 0;
  bits = 0;
  size = 0;
  shared = 0;
  layout_class = 0;
  data_address = 0;
  data_size = 0;
  list = ws;
}
