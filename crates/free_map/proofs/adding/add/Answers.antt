-- The three writes make the cells of the block, byte by byte the old ones and the block's.
use lib.ListN.{length-set}
use Rattle.free_map.proofs.AddLaws.{map-added}
use Rattle.free_map.proofs.CellWrites.{filled-long, written-whole, written_last}
use native.Mathlib.Omega.{arith}
use Rattle.free_map.proofs.adding.add.Goals as goal

pub returns-then-whole : goal.returns-then-whole
returns-then-whole c =
    let a = c.args in
    let m = a.map.now in
    let e = c.free_at_end.ensures in
    let f = c.free_whole.ensures in record {
      map_len_unchanged = filled-long m a.off a.size c.requires.le_size (omega arith) e f;
      by_index = λ seg bs i l o.
          map-added a.off a.size (written-whole m a.off a.size c.requires.le_size (omega arith) e f (omega arith)) c.requires.le_size i l o;
    }

pub returns : goal.returns
returns c =
    let a = c.args in
    let m = a.map.now in
    let e = c.free_at_end.ensures in
    let f = c.free_whole.ensures in
    let g = c.free_at_start.ensures in
    let n = filled-long m a.off a.size c.requires.le_size (omega arith) e f in record {
      map_len_unchanged = rw g (simp length-set n);
      by_index = λ seg bs i l o.
          map-added a.off a.size
          (written_last m a.off a.size c.requires.le_size (omega arith) e f g (omega arith) (omega arith))
          c.requires.le_size i l o;
    }
