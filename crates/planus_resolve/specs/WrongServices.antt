-- Faults of attributes and services.
use Rattle.std.specs.Prelude.{not, List, [], ◌∷◌, ◌++◌, Option, None, codes}
use Rattle.std.specs.Global.{Vec}
use Rattle.planus_syntax.specs.Values.{Name, label_name, label_of}
use Rattle.planus_syntax.specs.declared.value.Attribute.{Attribute}
use Rattle.planus_syntax.specs.declared.value.Declaration.{Declaration}
use Rattle.planus_syntax.specs.declared.value.Field.{Field}
use Rattle.planus_syntax.specs.declared.value.Item.{Item}
use Rattle.planus_syntax.specs.declared.value.Item.TheVariants as item
use Rattle.planus_syntax.specs.declared.value.Method.{Method}
use Rattle.planus_syntax.specs.declared.value.Record.{Record}
use Rattle.planus_schema.specs.Distinct.{is_in}
use Rattle.planus_resolve.specs.declared.fault.FaultKind.TheVariants as fault
use Rattle.planus_resolve.specs.Names.{as_type}
use Rattle.planus_resolve.specs.Names.{HeadV, SpaceV, cut_words}
use Rattle.planus_resolve.specs.Wrong.{Broken, when, first, wrong_table}

-- ---- attributes

-- of the language, of printed code, of one language, and of services
unfoldable pub built_in : List Name
built_in = cut_words []
    (codes "bit_flags deprecated flexbuffer force_align hash id key nested_flatbuffer "
    ++ codes "original_order required native_custom_alloc native_default native_inline "
    ++ codes "native_type native_type_pack_name private shared cpp_ptr_type cpp_ptr_type_get "
    ++ codes "cpp_str_flex_ctor cpp_str_type cpp_type csharp_partial idempotent streaming")

abbrev pub customs_at : Item → List Name
customs_at (item.Include w) = []
customs_at (item.NativeInclude w) = []
customs_at (item.Namespace p) = []
customs_at (item.Attribute l) = label_name (label_of l) ∷ []
customs_at (item.Table r) = []
customs_at (item.Struct r) = []
customs_at (item.Enum e) = []
customs_at (item.Union u) = []
customs_at (item.Service s) = []
customs_at (item.RootType p) = []
customs_at (item.FileIdentifier w) = []
customs_at (item.FileExtension w) = []

abbrev pub customs_in : List Declaration → List Name
customs_in [] = []
customs_in (d ∷ ds) = customs_at d.item ++ customs_in ds

abbrev pub customs_of : List (Vec Declaration) → List Name
customs_of [] = []
customs_of (f ∷ fs) = customs_in f.items ++ customs_of fs

-- those that may be used
abbrev pub known_attributes : List (Vec Declaration) → List Name
known_attributes files = built_in ++ customs_of files

abbrev pub wrong_attributes : List Name → List Attribute → Option Broken
wrong_attributes known [] = None
wrong_attributes known (a ∷ more) =
    first (when (not (is_in known (label_name (label_of a.label)))) fault.UnknownAttribute
    a.label.left)
    (wrong_attributes known more)

abbrev pub wrong_in_fields : List Name → List Field → Option Broken
wrong_in_fields known [] = None
wrong_in_fields known (f ∷ fs) =
    first (wrong_attributes known f.attributes.items) (wrong_in_fields known fs)

abbrev pub wrong_in_record : List Name → Record → Option Broken
wrong_in_record known r = first (wrong_attributes known r.attributes.items)
    (wrong_in_fields known r.fields.items)

-- ---- services

-- after methods of these names
abbrev pub wrong_method : List HeadV → SpaceV → List Name → List Name → Method → Option Broken
wrong_method hs space known names m =
    first (when (is_in names m.name.items) fault.MethodNameTaken m.left)
    (first (wrong_table fault.MethodIsNoTable hs as_type space m.request)
    (first (wrong_table fault.MethodIsNoTable hs as_type space m.response)
    (wrong_attributes known m.attributes.items)))

abbrev pub wrong_methods : List HeadV → SpaceV → List Name → List Name → List Method
    → Option Broken
wrong_methods hs space known names [] = None
wrong_methods hs space known names (m ∷ ms) = first (wrong_method hs space known names m)
    (wrong_methods hs space known (names ++ m.name.items ∷ []) ms)

-- the attributes of a declaration, and the methods of a service
abbrev pub wrong_item : List HeadV → SpaceV → List Name → Item → Option Broken
wrong_item hs space known (item.Include w) = None
wrong_item hs space known (item.NativeInclude w) = None
wrong_item hs space known (item.Namespace p) = None
wrong_item hs space known (item.Attribute l) = None
wrong_item hs space known (item.Table r) = wrong_in_record known r
wrong_item hs space known (item.Struct r) = wrong_in_record known r
wrong_item hs space known (item.Enum e) = wrong_attributes known e.attributes.items
wrong_item hs space known (item.Union u) = wrong_attributes known u.attributes.items
wrong_item hs space known (item.Service s) = first (wrong_attributes known s.attributes.items)
    (wrong_methods hs space known [] s.methods.items)
wrong_item hs space known (item.RootType p) = None
wrong_item hs space known (item.FileIdentifier w) = None
wrong_item hs space known (item.FileExtension w) = None
