pub mod Component
