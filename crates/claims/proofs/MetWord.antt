-- The block met lies inside the image, so that in C it fits the first word of the reply.
use Prim.Native.Nat.{ℕ, ◌+◌, ◌*◌, ◌/◌, ◌^◌, ◌≤◌, ◌<◌}
use mathlib.Core.Bool.{Bool, true, false}
use mathlib.Core.List.{List, [], ◌∷◌, ◌++◌, append-nil}
use mathlib.Core.Logic.{⊎_elim}
use mathlib.Core.Path.{◌≡◌, ap, sym, ◌∙◌}
use native.Mathlib.Omega.{arith}
use lib.Dec.{leb}
use lib.ListN.{length}
use Rattle.format.specs.Limits.{objects_most, rank_most}
use Rattle.std.specs.Prelude.{if◌then◌else◌}
use Rattle.format.specs.Bytes.{u64}
use Rattle.format.specs.Blocks.{Block, block_of, room_of}
use Rattle.format.specs.declared.Refusal.{Refusal}
use Rattle.format.specs.Walk.{kind_number, length_in, met_of, Walk}
use Rattle.format.specs.Superblock.{Superblock, opened, open_image}
use Rattle.format.specs.Answers.{audit, lookup, describe, mend}
use Rattle.format.specs.Front.{CReply, CMend, word_bytes, padded_bytes, short_reply, c_audit_end, c_lookup_end, c_describe_end, c_mend_end}
use Rattle.format.specs.Front.{c_audit, c_lookup, c_describe, c_mend}
use Rattle.walk.proofs.BlockList.{entry_answer-zero}
use Rattle.laws.specs.Blocks.{Inside}
use Rattle.laws.proofs.Growth.{inside-append}
use Rattle.laws.proofs.ImageLength.{image-small}
use Rattle.links.specs.Fault.{Fault, here, at_entry, later, AuditFault}
use Rattle.links.proofs.Opened.{opened-end}
use Rattle.found.specs.PathFault.{PathFault, malformed, unopened, at_component, at_last, LookupFault, DescribeFault}
use Rattle.demand.proofs.Opened.{opened-range}
use Rattle.claims.specs.Owners.{MetBy}
use Rattle.claims.specs.Zeros.{c_mend_zeros}
use Rattle.claims.proofs.BlockMet.{audit-met-by, lookup-met-by, describe-met-by, mend-met-by}
use Rattle.claims.proofs.WordsBack.{first_word}
use Rattle.claims.proofs.Zeros.{all-zeros}

-- an opened image ends below 2^32
pub end-small : (im : List ℕ) (s : Superblock) → open_image im ≡ opened s → s.end_of_file < 2 ^ 32
end-small im s p = omega (arith, opened-end im s p, image-small (length im) (opened-range im s p))

-- the blocks entered before a fault lie inside
fault-inside : {A : Type 0} (im : List ℕ) (eof room : ℕ) {w : Walk A} {bs : List Block} {r : Refusal} {ms : List Block} → Fault im eof room w bs r ms →
    Inside eof bs → Inside eof ms
fault-inside im eof room here h = h
fault-inside im eof room (at_entry g z) h = h
fault-inside im eof room (later {v = v} {a = a} {l = l} {bs = bs} g f) h =
    let n = length_in im v a l in
    fault-inside im eof room f (inside-append eof bs (block_of (kind_number v) a n ∷ []) h ((entry_answer-zero eof room bs a n g).0, tt))

inside-less : (eof most : ℕ) (bs : List Block) → eof ≤ most → Inside eof bs → Inside most bs
inside-less eof most [] l h = tt
inside-less eof most (b ∷ bs) l h = (omega (arith, l, h.0), inside-less eof most bs l h.1)

walk_inside : {A : Type 0} (im : List ℕ) (s : Superblock) (room : ℕ) {w : Walk A} {r : Refusal} {ms : List Block} → open_image im ≡ opened s →
    Fault im s.end_of_file room w [] r ms → Inside (2 ^ 32) ms
walk_inside im s room {ms = ms} p f =
    inside-less s.end_of_file (2 ^ 32) ms (omega (arith, end-small im s p)) (fault-inside im s.end_of_file room f tt)

audit-inside : (im : List ℕ) (lent : ℕ) (r : Refusal) (bs : List Block) → AuditFault im lent r bs → Inside (2 ^ 32) bs
audit-inside im lent r bs =
    ⊎_elim (λ h. let none : bs ≡ [] = h.3 in rw none tt) (λ h. walk_inside im h.0 (room_of lent) h.1 h.2)

path_inside : (im path : List ℕ) (lent : ℕ) {A : Type 0} (last : ℕ → Walk A) {r : Refusal} {bs : List Block} → PathFault im path lent last r bs →
    Inside (2 ^ 32) bs
path_inside im path lent last (malformed p) = tt
path_inside im path lent last (unopened p o) = tt
path_inside im path lent last (at_component before next after {s = s} q l f) = walk_inside im s (room_of lent) q.walkable f
path_inside im path lent last (at_last {s = s} q l f) = walk_inside im s (room_of lent) q.walkable f

lookup-inside : (im path : List ℕ) (lent : ℕ) (r : Refusal) (bs : List Block) → LookupFault im path lent r bs → Inside (2 ^ 32) bs
lookup-inside im path lent r bs f = path_inside im path lent _ f

describe-inside : (im path : List ℕ) (lent : ℕ) (r : Refusal) (bs : List Block) → DescribeFault im path lent r bs → Inside (2 ^ 32) bs
describe-inside im path lent r bs = ⊎_elim (path_inside im path lent _) (λ h. let none : bs ≡ [] = h.2 in rw none tt)

-- so the block met has an address below 2^64
member-inside : (eof : ℕ) (before : List Block) (b : Block) (after : List Block) → Inside eof (before ++ (b ∷ after)) → b.at + b.size ≤ eof
member-inside eof [] b after h = h.0
member-inside eof (c ∷ before) b after h = member-inside eof before b after h.1

met-small : (F : Refusal → List Block → Type 0) (met : ℕ) → ((r : Refusal) (bs : List Block) → F r bs → Inside (2 ^ 32) bs) → MetBy F met → met < 2 ^ 64
met-small F met inside m =
    let f = m.3 in
    let all = inside m.0 m.1 m.2 in
    let there = member-inside (2 ^ 32) f.before f.block f.after (rw f.all at all) in
    let own : f.block.at ≡ met = sym (ap met_of f.refusal) ∙ m.4 in
    omega arith

-- the first word of a reply that holds it alone
word-met : (r met : ℕ) → met < 2 ^ 64 → u64 (padded_bytes r (met ∷ [])) 0 ≡ met
unfolding word_bytes
word-met r met h = rw append-nil (first_word met _ h)

-- 6 is the library's number: a short reply has 13
not_short : (t : Bool) (l r : ℕ) (c : CReply) → (if t then c else short_reply l r).number ≡ 6 → c.number ≡ 6
not_short true l r c six = six
not_short false l r c six = absurd (omega (arith, six))

six-audit : (im : List ℕ) (l r : ℕ) → (c_audit im l r).number ≡ 6 → (audit im (l / 8)).number ≡ 6
unfolding c_audit
six-audit im l r = not_short (leb (2 + 3 * objects_most) (r / 8)) l r (c_audit_end l r (audit im (l / 8)))

six-lookup : (im path : List ℕ) (l r : ℕ) → (c_lookup im path l r).number ≡ 6 → (lookup im path (l / 8)).number ≡ 6
unfolding c_lookup
six-lookup im path l r = not_short (leb 3 (r / 8)) l r (c_lookup_end l r (lookup im path (l / 8)))

six-describe : (im path : List ℕ) (l r : ℕ) → (c_describe im path l r).number ≡ 6 → (describe im path (l / 8)).number ≡ 6
unfolding c_describe
six-describe im path l r = not_short (leb (10 + 2 * rank_most) (r / 8)) l r (c_describe_end l r (describe im path (l / 8)))

six-mend : (im : List ℕ) (l g r n : ℕ) → (c_mend im l g r n).number ≡ 6 → (mend im (l / 8) (g / 8) n).number ≡ 6
unfolding c_mend
six-mend im l g r n = go (leb 3 (r / 8))
  where
    go : (t : Bool) → (if t then c_mend_end l g r (mend im (l / 8) (g / 8) n) else c_mend_zeros im l g r 13).number ≡ 6 → (mend im (l / 8) (g / 8) n).number ≡ 6
    go true six = six
    go false six = absurd (omega (arith, six))

pub c-audit-met : (im : List ℕ) (l r : ℕ) → (c_audit im l r).number ≡ 6 → u64 (c_audit im l r).reply 0 ≡ (audit im (l / 8)).met
c-audit-met im l r six =
    let small = met-small (AuditFault im (l / 8)) _ (audit-inside im (l / 8)) (audit-met-by im (l / 8) (six-audit im l r six)) in
    ap (λ (c : CReply). u64 c.reply 0) (all-zeros.c_audits_with_six im l r six) ∙ word-met r (audit im (l / 8)).met small

pub c-lookup-met : (im path : List ℕ) (l r : ℕ) → (c_lookup im path l r).number ≡ 6 → u64 (c_lookup im path l r).reply 0 ≡ (lookup im path (l / 8)).met
c-lookup-met im path l r six =
    let small =
    met-small (LookupFault im path (l / 8)) _ (lookup-inside im path (l / 8)) (lookup-met-by im path (l / 8) (six-lookup im path l r six)) in
    ap (λ (c : CReply). u64 c.reply 0) (all-zeros.c_lookups_with_six im path l r six) ∙ word-met r (lookup im path (l / 8)).met small

pub c-describe-met : (im path : List ℕ) (l r : ℕ) → (c_describe im path l r).number ≡ 6 →
    u64 (c_describe im path l r).reply 0 ≡ (describe im path (l / 8)).met
c-describe-met im path l r six =
    let small =
    met-small (DescribeFault im path (l / 8)) _ (describe-inside im path (l / 8)) (describe-met-by im path (l / 8) (six-describe im path l r six)) in
    ap (λ (c : CReply). u64 c.reply 0) (all-zeros.c_descriptions_with_six im path l r six) ∙ word-met r (describe im path (l / 8)).met small

pub c-mend-met : (im : List ℕ) (l g r n : ℕ) → (c_mend im l g r n).number ≡ 6 → u64 (c_mend im l g r n).reply 0 ≡ (mend im (l / 8) (g / 8) n).met
c-mend-met im l g r n six =
    let small =
    met-small (AuditFault im (l / 8)) _ (audit-inside im (l / 8)) (mend-met-by im (l / 8) (g / 8) n (six-mend im l g r n six)) in
    ap (λ (c : CMend). u64 c.reply 0) (all-zeros.c_mends_with_six im l g r n six) ∙ word-met r (mend im (l / 8) (g / 8) n).met small
