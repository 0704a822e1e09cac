-- The fields of a description that are read off a datatype and a layout.
use Rattle.std.specs.Prelude.{◌≡◌}
use Rattle.format.specs.Answers.{type_class, type_version, type_bits, type_size, type_shared}
use Rattle.datatype.specs.Datatype.{type_of}
use Rattle.layout.specs.Layout.{layout_of}
use Rattle.datatype.specs.declared.Datatype.{Datatype}
use Rattle.layout.specs.declared.Layout.{Layout}
use Rattle.describe.specs.declared.fields.TypeFields.{TypeFields}
use Rattle.describe.specs.declared.fields.LayoutFields.{LayoutFields}

-- "datatype class, version, class bits and element size, or the shared address (those not given are 0)"
pub record TypeIs (t : Datatype) (r : TypeFields) : Type 0 where
  pub class : r.class ≡ type_class (type_of t)
  pub version : r.version ≡ type_version (type_of t)
  pub bits : r.bits ≡ type_bits (type_of t)
  pub size : r.size ≡ type_size (type_of t)
  pub shared : r.shared ≡ type_shared (type_of t)

-- "layout class, data address .. and size"
pub record LayoutIs (l : Layout) (r : LayoutFields) : Type 0 where
  pub class : r.class ≡ (layout_of l).class
  pub address : r.address ≡ (layout_of l).address
  pub size : r.size ≡ (layout_of l).size
