-- Each number is attained: in the library by computing, and in C, where a reply that has room has the library's number.
use Prim.Native.Nat.{ℕ, ◌*◌, ◌/◌}
use mathlib.Core.List.{List, [], ◌∷◌, ◌++◌}
use mathlib.Core.Path.{◌≡◌, refl, ap, fun_ext, ◌∙◌}
use native.Mathlib.Omega.{arith}
use Rattle.format.specs.Limits.{image_least, image_most, level_most, rank_most, objects_most, blocks_most, name_most, path_most}
use Rattle.format.specs.Bytes.{all_hold, little_endian, to_bytes, to_words, overwrite, undefined_address, same_bytes, contains}
use Rattle.format.specs.Blocks.{overlaps, overlaps_any, first_met, entry_answer, room_of, owner_after, block_words}
use Rattle.format.specs.Result as results
use Rattle.format.specs.Walk.{blank_count, shown, ◌>>=◌, run}
use Rattle.format.specs.Superblock.{signature, version_shift, versions_read, sizes_read, addresses_read, superblock_read, superblock_sound}
use Rattle.format.specs.Superblock.{superblock_fields, open_image, superblock_walk}
use Rattle.format.specs.Header.{messages, continuations, header_contents, header_messages, has_counts, object_of, header_with, header_walk}
use Rattle.format.specs.Message.{treatment, read_message, of_type, the_message}
use Rattle.format.specs.FreeList.{free_blocks, free_list}
use Rattle.format.specs.Heap.{HEAP, heap_walk}
use Rattle.format.specs.Names.{before_nul, string_at, key_text, is_name, name_text, value_text, below, within}
use Rattle.format.specs.Entry.{read_value, read_entry}
use Rattle.format.specs.Symbols.{SNOD, entries, symbol_walk}
use Rattle.format.specs.Tree.{TREE, keys_walk, children, node_walk, branches, subtree, tree_walk, group_walk}
use Rattle.format.specs.Dataspace.{product, all_at_most, read_dataspace}
use Rattle.format.specs.Datatype.{read_datatype, read_shared}
use Rattle.format.specs.Layout.{read_compact, read_contiguous, read_layout}
use Rattle.format.specs.Dataset.{data_walk, read_type, storage_walk, dataset_walk}
use Rattle.format.specs.Attribute.{read_shared_part, read_attribute}
use Rattle.format.specs.Ledger.{in_ledger, add_link, count_link, discover}
use Rattle.format.specs.Sharing.{place_of, share, share_each, discover_sharing, not_committed}
use Rattle.format.specs.Object.{sharing_dataset, content_walk, object_walk}
use Rattle.format.specs.Audit.{objects_walk, audit_walk, audit_run, counted_in}
use Rattle.format.specs.Path.{path_parts, is_component, all_components, parse_path}
use Rattle.format.specs.Lookup.{compare_name, find_walk, target_walk, component_walk, follow, locate_walk, lookup_run}
use Rattle.format.specs.Describe.{dataset_of, describe_walk, describe_run}
use Rattle.format.specs.Log.{log_words, changes, written, restored}
use Rattle.format.specs.Mend.{corrections}
use Rattle.format.specs.Undo.{fits, all_fit, undo_number, undone}
use Rattle.format.specs.Answers.{audit, lookup, describe, mend, undo}
use Rattle.format.specs.Front.{c_audit, c_lookup, c_describe, c_mend, c_undo}
use Rattle.claims.specs.Attained.{numbers_of, names, links, audit_attained, lookup_attained, describe_attained, mend_attained, undo_attained}
use Rattle.claims.specs.Attained.{Attained, CAttained, reply_bytes, crowded}
use Rattle.claims.specs.Numbers.{c_undo_numbers}
use Rattle.cases.specs.Files.{zeros}

-- words as bytes
eights : (n : ℕ) → n * 8 / 8 ≡ n
eights n = omega arith

c-audit : (im : List ℕ) (lent : ℕ) → (c_audit im (lent * 8) reply_bytes).number ≡ (audit im lent).number
unfolding c_audit objects_most
c-audit im lent = rw (eights lent)

c-lookup : (im path : List ℕ) (lent : ℕ) → (c_lookup im path (lent * 8) reply_bytes).number ≡ (lookup im path lent).number
unfolding c_lookup objects_most
c-lookup im path lent = rw (eights lent)

c-describe : (im path : List ℕ) (lent : ℕ) → (c_describe im path (lent * 8) reply_bytes).number ≡ (describe im path lent).number
unfolding c_describe rank_most objects_most
c-describe im path lent = rw (eights lent)

c-mend : (im : List ℕ) (lent log_lent : ℕ) → (c_mend im (lent * 8) (log_lent * 8) reply_bytes 1).number ≡ (mend im lent log_lent 1).number
unfolding c_mend objects_most
c-mend im lent log_lent = rw (eights lent, eights log_lent)

-- The unfolding lines name each definition that the computing goes through.
crowded-audit : (audit crowded 32).number ≡ 12
unfolding image_least image_most level_most rank_most objects_most blocks_most name_most path_most all_hold little_endian to_bytes to_words overwrite
    undefined_address same_bytes contains overlaps overlaps_any first_met entry_answer room_of owner_after block_words blank_count shown results.◌>>=◌ ◌>>=◌ run
    signature version_shift versions_read sizes_read addresses_read superblock_read superblock_sound superblock_fields open_image superblock_walk
    treatment read_message messages of_type the_message continuations header_contents header_messages has_counts object_of header_with header_walk
    HEAP free_blocks free_list heap_walk before_nul string_at key_text is_name name_text below within SNOD read_value read_entry entries symbol_walk
    TREE keys_walk children node_walk branches subtree tree_walk group_walk product read_dataspace read_datatype read_shared read_contiguous
    read_layout data_walk read_type storage_walk dataset_walk read_shared_part read_attribute place_of share share_each discover_sharing not_committed
    sharing_dataset in_ledger add_link count_link discover content_walk object_walk objects_walk audit_walk audit_run counted_in path_parts is_component
    all_components parse_path compare_name find_walk target_walk component_walk follow locate_walk lookup_run dataset_of describe_walk describe_run
    log_words changes written restored corrections fits all_fit undo_number undone audit lookup describe mend undo value_text read_compact
    all_at_most numbers_of names links
crowded-audit = refl

crowded-mend : (mend crowded 32 2 1).number ≡ 12
unfolding mend
crowded-mend = rw crowded-audit

-- the images that are the same whatever the limits
pub attained : Attained
unfolding image_least image_most level_most rank_most objects_most blocks_most name_most path_most all_hold little_endian to_bytes to_words overwrite
    undefined_address same_bytes contains overlaps overlaps_any first_met entry_answer room_of owner_after block_words blank_count shown results.◌>>=◌ ◌>>=◌ run
    signature version_shift versions_read sizes_read addresses_read superblock_read superblock_sound superblock_fields open_image superblock_walk
    treatment read_message messages of_type the_message continuations header_contents header_messages has_counts object_of header_with header_walk
    HEAP free_blocks free_list heap_walk before_nul string_at key_text is_name name_text below within SNOD read_value read_entry entries symbol_walk
    TREE keys_walk children node_walk branches subtree tree_walk group_walk product read_dataspace read_datatype read_shared read_contiguous
    read_layout data_walk read_type storage_walk dataset_walk read_shared_part read_attribute place_of share share_each discover_sharing not_committed
    sharing_dataset in_ledger add_link count_link discover content_walk object_walk objects_walk audit_walk audit_run counted_in path_parts is_component
    all_components parse_path compare_name find_walk target_walk component_walk follow locate_walk lookup_run dataset_of describe_walk describe_run
    log_words changes written restored corrections fits all_fit undo_number undone audit lookup describe mend undo value_text read_compact
    all_at_most numbers_of names links
attained = record {
  audits = ap (λ (n : ℕ). 0 ∷ 1 ∷ 2 ∷ 3 ∷ 4 ∷ 5 ∷ 6 ∷ 7 ∷ 8 ∷ 9 ∷ 10 ∷ 11 ∷ n ∷ 13 ∷ []) crowded-audit;
  lookups = refl;
  descriptions = refl;
  mends = ap (λ (n : ℕ). 0 ∷ 1 ∷ 2 ∷ 3 ∷ 4 ∷ 5 ∷ 6 ∷ 7 ∷ 8 ∷ 9 ∷ 10 ∷ 11 ∷ n ∷ 13 ∷ 18 ∷ []) crowded-mend;
  undos = refl;
}

c-undos : undo_attained (to_bytes 8 2000 ++ zeros 8) (λ im log e. (c_undo im log 8 e 0).number) ++ ((c_undo [] [] 0 0 0).number ∷ []) ≡ c_undo_numbers
unfolding image_least image_most all_hold little_endian to_bytes to_words undefined_address changes fits all_fit undo_number undo c_undo
c-undos = refl

pub c-attained : CAttained
c-attained = record {
  audits = ap audit_attained (fun_ext λ im. fun_ext λ lent. c-audit im lent) ∙ attained.audits;
  lookups = ap lookup_attained (fun_ext λ im. fun_ext λ path. fun_ext λ lent. c-lookup im path lent) ∙ attained.lookups;
  descriptions = ap describe_attained (fun_ext λ im. fun_ext λ path. fun_ext λ lent. c-describe im path lent) ∙ attained.descriptions;
  mends = ap mend_attained (fun_ext λ im. fun_ext λ lent. fun_ext λ log_lent. c-mend im lent log_lent) ∙ attained.mends;
  undos = c-undos;
}
