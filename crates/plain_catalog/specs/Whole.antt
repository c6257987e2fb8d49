-- A catalog of a set of schemas and a map of objects.
use Rattle.std.specs.Prelude.{refl}
use Rattle.std.specs.Coded.{Coded, code_by, coded×}
use Rattle.std.specs.FinMap as finite_map
use Rattle.dd_catalog.specs.Catalog.{Catalog, NameSet, Placed, object_cmp}

abbrev pub catalog_of : NameSet → finite_map.FinMap object_cmp Placed → Catalog
catalog_of schemas objects = record { schemas = schemas; objects = objects }

abbrev pub catalog_code : Coded NameSet → Coded (finite_map.FinMap object_cmp Placed) → Coded Catalog
catalog_code names objects =
    code_by (NameSet × finite_map.FinMap object_cmp Placed) (coded× names objects) (λ c. (c.schemas, c.objects)) (λ p. catalog_of p.0 p.1) (λ _. refl)
