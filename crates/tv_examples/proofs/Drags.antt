-- tools/examples writes these modules from cases/drag-*: don't edit them
mod Drag01
mod Drag02
mod Drag03
mod Drag04
mod Drag05
mod Drag06
mod Drag07
mod Drag08
mod Drag09
mod Drag10
mod Drag11
mod Drag12
mod Drag13
mod Drag14
mod Drag15
