pub mod MeshTests
