-- Each field by the number that was read for it.
use mathlib.Core.Path.{sym}
use Rattle.format.specs.Superblock.{superblock_fields}
use Rattle.superblock.proofs.SuperblockLaws.{shifted-field, shifted_end}
use Rattle.superblock.proofs.superblock_fields.Goals as goal

pub returns : goal.returns
unfolding superblock_fields
returns c =
    let s = c in
    let image = s.args.image.now in record {
      result_value = λ i. record {
        size = sym (shifted_end image s.args.shift s.requires) i;
        leaf_k = c.u16_at.ensures.value i;
        internal_k = c.u16_at-2.ensures.value i;
        end_of_file = sym (shifted-field image s.args.shift 40 8 _ s.requires c.u64_at.ensures) i;
        root = sym (shifted-field image s.args.shift 64 8 _ s.requires c.u64_at-2.ensures) i;
      };
      leaf_k_bound = (c.u16_at.ensures.bound, c.u16_at-2.ensures.bound);
    }
